use Rattle.std.proofs.Common.{◌≡◌, ◌+◌, ◌<◌, take}
use Rattle.profile_model.specs.Limits.{total_bound}
use Rattle.profile_model.specs.Pushes.{profiles_total}
use Rattle.query_merge.specs.Rows.{profiles_of}
use Rattle.query_reading.proofs.reading.total_with.Given as goal

abbrev pub invariant-loop-row : goal.invariant-loop-row
invariant-loop-row l = record {
  total : l.total ≡ l.before + profiles_total (profiles_of (take l.row-index l.rows));
  room : l.total < total_bound;
}
