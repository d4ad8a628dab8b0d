use Rattle.std.proofs.Common.{◌≡◌, take}
use Rattle.api_replies.specs.Listing.{with_rows}
use Rattle.api_replies.proofs.labels.add_rows.Given as goal

abbrev pub invariant-loop-profile : goal.invariant-loop-profile
invariant-loop-profile l = l.sets ≡ with_rows l.fn.sets (take l.profile-index l.profiles) l.part.from_ms l.part.until_ms
