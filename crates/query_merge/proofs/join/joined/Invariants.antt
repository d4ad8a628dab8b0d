use Rattle.std.proofs.Common.{◌+◌, length}
use Rattle.query_merge.proofs.JoinLemmas.{Walked}
use Rattle.query_merge.proofs.join.joined.Given as goal

abbrev pub invariant-loop-samples : goal.invariant-loop-samples
invariant-loop-samples l = Walked l.fn.first l.fn.second l.samples.items l.rest.0.now l.rest.1.now

abbrev pub decreases-loop-samples : goal.decreases-loop-samples
decreases-loop-samples l = length l.rest.0.now + length l.rest.1.now
