use Rattle.std.proofs.Common.{◌≡◌, fold, flat_map}
use Rattle.std.specs.BTreeSet.{insert_key}
use Rattle.std.specs.Map.{keys_of}
use Rattle.profile_model.specs.Stacks.{name_cmp}
use Rattle.label_queries.specs.Labels.{label_names_of}
use Rattle.label_queries.proofs.listing.names_in.Given as goal

abbrev pub invariant-loop-set : goal.invariant-loop-set
invariant-loop-set l = fold (insert_key name_cmp) l.names.keys (flat_map keys_of l.set-iterator) ≡ label_names_of l.sets.keys
