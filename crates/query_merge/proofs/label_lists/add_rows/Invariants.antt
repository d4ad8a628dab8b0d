use Rattle.std.proofs.Common.{◌≡◌, ◌++◌, List, take}
use Rattle.profile_model.specs.declared.profile.Profile.{Profile}
use Rattle.query_merge.specs.Rows.{profiles_of}
use Rattle.query_merge.specs.SetLists.{AreSetsOf}
use Rattle.query_merge.proofs.label_lists.add_rows.Given as goal

abbrev pub invariant-loop-row : goal.invariant-loop-row
invariant-loop-row l = record {
  selectors : l.lists.selectors ≡ l.fn.lists.selectors;
  more : (profiles : List Profile) → AreSetsOf l.fn.lists profiles → AreSetsOf l.lists (profiles ++ profiles_of (take l.row-index l.rows));
}
