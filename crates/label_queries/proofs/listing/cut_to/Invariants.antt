use Rattle.std.proofs.Common.{◌≡◌, map, take}
use Rattle.label_queries.specs.Labels.{cut_to}
use Rattle.label_queries.proofs.listing.cut_to.Given as goal

abbrev pub invariant-loop-name : goal.invariant-loop-name
invariant-loop-name l = l.kept.items ≡ cut_to (map (λ name. name.now) l.names.keys) (take l.name-index l.labels)
