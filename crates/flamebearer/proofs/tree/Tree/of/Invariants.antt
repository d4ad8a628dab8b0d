use Rattle.flamebearer.proofs.AlongLemmas.{IsAlong}
use Rattle.flamebearer.proofs.tree.Tree.of.Given as goal

abbrev pub invariant-loop-stack : goal.invariant-loop-stack
invariant-loop-stack l = IsAlong l.values l.stack-iterator l.before l.entries.items l.spine.items
