use Rattle.std.proofs.Common.{◌≡◌, map, take}
use Rattle.std.specs.Prelude.{fold, max}
use Rattle.std.specs.List.{flat_map}
use Rattle.flamebearer.specs.Rows.{spots_of}
use Rattle.flamebearer.proofs.rows.greatest_own.Given as goal

abbrev pub invariant-loop-levels : goal.invariant-loop-levels
invariant-loop-levels l = l.greatest ≡ fold max 0 (flat_map (flat_map (map (λ spot. spot.own))) (take l.levels-index (spots_of l.laid)))
