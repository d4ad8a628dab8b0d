use Rattle.std.proofs.Common.{◌≡◌, fold, take}
use Rattle.std.specs.BTreeSet.{insert_key}
use Rattle.std.specs.Map.{keys_of}
use Rattle.profile_model.specs.Stacks.{name_cmp}
use Rattle.label_queries.proofs.listing.add_names.Given as goal

abbrev pub invariant-loop-name : goal.invariant-loop-name
invariant-loop-name l = l.names.keys ≡ fold (insert_key name_cmp) l.fn.names.keys (keys_of (take l.name-index l.labels))
