use Rattle.std.proofs.Common.{◌≡◌, fold, take}
use Rattle.std.specs.BTreeSet.{insert_key}
use Rattle.profile_model.specs.Stacks.{name_cmp}
use Rattle.query_merge.specs.Rows.{profiles_of}
use Rattle.query_merge.specs.TypeLists.{type_texts_of}
use Rattle.query_merge.proofs.types.add_texts.Given as goal

abbrev pub invariant-loop-row : goal.invariant-loop-row
invariant-loop-row l = l.texts.keys ≡ fold (insert_key name_cmp) l.fn.texts.keys (type_texts_of (profiles_of (take l.row-index l.rows)))
