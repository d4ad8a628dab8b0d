use Rattle.std.proofs.Common.{◌≡◌, false, take}
use Rattle.std.specs.List.{list_any}
use Rattle.selector.specs.Matching.{matches}
use Rattle.label_queries.proofs.label_sets.any_matches.Given as goal

abbrev pub invariant-loop-selector : goal.invariant-loop-selector
invariant-loop-selector l =
    (l.selectors ≡ l.fn.selectors)
    × (list_any (λ selector. matches selector l.profile.labels l.profile.kind) (take l.selector-index l.fn.selectors) ≡ false)
