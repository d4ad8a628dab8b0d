use Rattle.query_merge.specs.Runs.{AreJoined}
use Rattle.query_merge.proofs.runs.joined_with_last.Given as goal

abbrev pub invariant-loop-left : goal.invariant-loop-left
invariant-loop-left l = AreJoined l.runs l.fn.samples.items l.left l.run.items

abbrev pub decreases-loop-left : goal.decreases-loop-left
decreases-loop-left l = l.left
