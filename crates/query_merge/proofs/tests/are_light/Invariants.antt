use Rattle.std.proofs.Common.{◌≡◌, ◌≤◌, take}
use Rattle.profile_model.specs.Pushes.{profiles_total}
use Rattle.query_merge.specs.Rows.{profiles_of}
use Rattle.query_merge.proofs.tests.are_light.Given as goal

abbrev pub invariant-loop-row : goal.invariant-loop-row
invariant-loop-row l = record {
  total : l.total ≡ profiles_total (profiles_of (take l.row-index l.rows));
  few : l.total ≤ 1000000;
}
