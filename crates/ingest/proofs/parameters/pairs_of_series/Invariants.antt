use Rattle.std.proofs.Common.{◌≡◌, ◌∷◌, map, take, codes}
use Rattle.ingest.proofs.parameters.pairs_of_series.Given as goal

abbrev pub invariant-loop-pair : goal.invariant-loop-pair
invariant-loop-pair l =
    l.pairs.items ≡ (codes "service_name", l.service) ∷ map (λ pair. (pair.0.now, pair.1.now)) (take l.pair-index l.rest)
