use Rattle.std.proofs.Common.{length}
use Rattle.json_bodies.specs.KeptSeries.{AreParts}
use Rattle.json_bodies.proofs.LoopLemmas.{MembersSoFar}
use Rattle.json_bodies.proofs.series.read_parts.Given as goal

abbrev pub invariant-members : goal.invariant-members
invariant-members l = MembersSoFar (λ ms. AreParts ms l.parts) l.depth l.initial.reader l.reader

abbrev pub decreases-members : goal.decreases-members
decreases-members l = length l.reader
