use Rattle.std.proofs.Common.{[]}
use Rattle.query_merge.specs.Runs.{AreJoined}
use Rattle.query_merge.proofs.runs.all_joined.Given as goal

abbrev pub invariant-loop-left : goal.invariant-loop-left
invariant-loop-left l = AreJoined l.runs [] l.left l.samples.items

abbrev pub decreases-loop-left : goal.decreases-loop-left
decreases-loop-left l = l.left
