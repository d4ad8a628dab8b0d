use Rattle.std.proofs.Common.{◌≡◌, ◌+◌, take}
use Rattle.profile_model.specs.Pushes.{profiles_total}
use Rattle.query_merge.specs.Rows.{profiles_of}
use Rattle.merge_times.proofs.answers.room_after.Given as goal

abbrev pub invariant-loop-row : goal.invariant-loop-row
invariant-loop-row l = (l.rest + profiles_total (profiles_of (take l.row-index l.rows)) ≡ l.room)
