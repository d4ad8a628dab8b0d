use Rattle.std.proofs.Common.{length}
use Rattle.json_bodies.specs.Kept.{IsSampleText}
use Rattle.json_bodies.proofs.LoopLemmas.{MembersSoFar}
use Rattle.json_bodies.proofs.leaves.sample_text.Given as goal

abbrev pub invariant-members : goal.invariant-members
invariant-members l = MembersSoFar (λ ms. IsSampleText ms l.raw) l.depth l.initial.reader l.reader

abbrev pub decreases-members : goal.decreases-members
decreases-members l = length l.reader
