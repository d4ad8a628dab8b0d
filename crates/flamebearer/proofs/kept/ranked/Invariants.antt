use Rattle.std.proofs.Common.{◌≡◌, map}
use Rattle.std.specs.List.{All, range_with_len}
use Rattle.flamebearer.specs.Ranks.{weight_in}
use Rattle.flamebearer.proofs.kept.ranked.Given as goal

abbrev pub invariant-loop-place : goal.invariant-loop-place
invariant-loop-place l = record {
  places : map (λ one. one.1) l.ranked.items ≡ range_with_len 0 l.place;
  weights : All (λ one. one.0.0 ≡ weight_in (map (λ side. side.now) l.sides) one.1) l.ranked.items;
}
