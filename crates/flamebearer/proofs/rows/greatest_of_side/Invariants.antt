use Rattle.std.proofs.Common.{◌≡◌, map, take}
use Rattle.std.specs.Prelude.{fold, max}
use Rattle.std.specs.List.{flat_map}
use Rattle.flamebearer.proofs.rows.greatest_of_side.Given as goal

abbrev pub invariant-loop-level : goal.invariant-loop-level
invariant-loop-level l = l.greatest ≡ fold max l.least (flat_map (map (λ spot. spot.own)) (take l.level-index (map (λ level. level.items) l.levels)))
