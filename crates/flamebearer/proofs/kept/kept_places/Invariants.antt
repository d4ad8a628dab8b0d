use Rattle.std.proofs.Common.{map}
use Rattle.flamebearer.proofs.RankLemmas.{AreFlagged}
use Rattle.flamebearer.proofs.kept.kept_places.Given as goal

abbrev pub invariant-loop-rank : goal.invariant-loop-rank
invariant-loop-rank l = AreFlagged l.count (map (λ one. one.1) l.ranked.items) l.rank l.kept.items
