use Rattle.std.proofs.Common.{◌≡◌, ◌++◌, ◌+◌, ◌≤◌, List, take}
use Rattle.profile_model.specs.Pushes.{profiles_total}
use Rattle.profile_model.specs.declared.profile.Profile.{Profile}
use Rattle.query_merge.specs.Gathering.{AreGroupsOf, AreWithin}
use Rattle.query_merge.specs.Rows.{profiles_of}
use Rattle.query_merge.proofs.points.add_rows.Given as goal

abbrev pub invariant-loop-row : goal.invariant-loop-row
invariant-loop-row l = record {
  same : l.plan ≡ l.fn.plan;
  within : AreWithin l.held;
  total : l.held.total ≤ l.fn.held.total + profiles_total (profiles_of (take l.row-index l.rows));
  more : (profiles : List Profile) → AreGroupsOf l.fn.plan profiles l.fn.held → AreGroupsOf l.fn.plan (profiles ++ profiles_of (take l.row-index l.rows)) l.held;
}
