use Rattle.std.proofs.Common.{◌≡◌, drop, fold, map}
use Rattle.std.specs.BTreeSet.{insert_key}
use Rattle.profile_model.specs.Stacks.{name_cmp}
use Rattle.label_queries.specs.Ordered.{ascending}
use Rattle.label_queries.proofs.listing.in_order.Given as goal

abbrev pub invariant-loop-name : goal.invariant-loop-name
invariant-loop-name l =
    fold (insert_key name_cmp) (map (λ name. name.now) l.ordered.keys) (map (λ name. name.now) (drop l.name-index l.names))
    ≡ ascending name_cmp (map (λ name. name.now) l.names)
