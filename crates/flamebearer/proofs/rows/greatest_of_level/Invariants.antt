use Rattle.std.proofs.Common.{◌≡◌, map, take}
use Rattle.std.specs.Prelude.{fold, max}
use Rattle.flamebearer.proofs.rows.greatest_of_level.Given as goal

abbrev pub invariant-loop-spot : goal.invariant-loop-spot
invariant-loop-spot l = l.greatest ≡ fold max l.least (map (λ spot. spot.own) (take l.spot-index l.level))
