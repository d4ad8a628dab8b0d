use Rattle.std.proofs.Common.{◌≡◌, ◌≤◌, ◌*◌, map, take}
use Rattle.flamebearer.specs.Ranks.{weight_in}
use Rattle.flamebearer.proofs.kept.weight_of.Given as goal

abbrev pub invariant-loop-side : goal.invariant-loop-side
invariant-loop-side l = record {
  sum : l.weight ≡ weight_in (take l.side-index (map (λ side. side.now) l.sides)) l.place;
  few : l.weight ≤ 9223372036854775807 * l.side-index;
}
