use Rattle.std.proofs.Common.{◌+◌, ◌-◌, length, map}
use Rattle.flamebearer.proofs.LevelLemmas.{AreSoFar}
use Rattle.flamebearer.proofs.levels.levels_of.Given as goal

abbrev pub invariant-loop-ends : goal.invariant-loop-ends
invariant-loop-ends l = AreSoFar l.branches l.ends l.values l.kept (map (λ level. level.items) l.levels.items) l.level.items

abbrev pub decreases-loop-ends : goal.decreases-loop-ends
decreases-loop-ends l = length l.ends + 1 - length l.levels.items
