use Rattle.std.proofs.Common.{◌≡◌, fold}
use Rattle.std.specs.List.{filter_map}
use Rattle.std.specs.BTreeSet.{insert_key}
use Rattle.profile_model.specs.LabelSets.{label_of}
use Rattle.profile_model.specs.Stacks.{name_cmp}
use Rattle.label_queries.specs.Labels.{label_values_of}
use Rattle.label_queries.proofs.listing.values_in.Given as goal

abbrev pub invariant-loop-set : goal.invariant-loop-set
invariant-loop-set l =
    fold (insert_key name_cmp) l.values.keys (filter_map (λ set. label_of set l.name) l.set-iterator) ≡ label_values_of l.name l.sets.keys
