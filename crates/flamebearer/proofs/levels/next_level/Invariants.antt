use Rattle.flamebearer.proofs.LevelLemmas.{IsNextSo}
use Rattle.flamebearer.proofs.levels.next_level.Given as goal

abbrev pub invariant-loop-spot : goal.invariant-loop-spot
invariant-loop-spot l = IsNextSo l.ends l.values l.kept l.level l.spot-index l.next.items
