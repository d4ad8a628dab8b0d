use Rattle.std.proofs.Common.{◌≡◌, fold, map}
use Rattle.std.specs.BTreeSet.{insert_key}
use Rattle.profile_model.specs.LabelOrder.{labels_cmp}
use Rattle.label_queries.specs.Labels.{cut_to, series_of}
use Rattle.label_queries.proofs.listing.series_in.Given as goal

abbrev pub invariant-loop-set : goal.invariant-loop-set
invariant-loop-set l =
    fold (insert_key labels_cmp) (map (λ set. set.items) l.series.keys) (map (cut_to (map (λ name. name.now) l.names)) l.set-iterator)
    ≡ series_of (map (λ name. name.now) l.names) l.sets.keys
