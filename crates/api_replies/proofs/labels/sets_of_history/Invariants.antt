use Rattle.std.proofs.Common.{◌≡◌, [], drop}
use Rattle.api_replies.specs.Listing.{with_rows}
use Rattle.api_replies.proofs.RenderingLemmas.{profiles_in}
use Rattle.api_replies.proofs.labels.sets_of_history.Given as goal

abbrev pub invariant-loop-push : goal.invariant-loop-push
invariant-loop-push l =
    with_rows l.sets (profiles_in (drop l.push-index l.history) l.part.tenant) l.part.from_ms l.part.until_ms
    ≡ with_rows (record { selectors = l.fn.selectors.items; sets = [] }) (profiles_in l.history l.part.tenant) l.part.from_ms l.part.until_ms
