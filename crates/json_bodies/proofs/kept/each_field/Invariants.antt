use Rattle.std.proofs.Common.{length}
use Rattle.serde_json.specs.Data.{object}
use Rattle.json_bodies.specs.KeptFields.{AreFields}
use Rattle.json_bodies.proofs.LoopLemmas.{MembersSoFar}
use Rattle.json_bodies.proofs.kept.each_field.Given as goal

abbrev pub invariant-members : goal.invariant-members
invariant-members l = MembersSoFar (λ ms. AreFields (object ms) l.fields) 126 l.initial.reader l.reader

abbrev pub decreases-members : goal.decreases-members
decreases-members l = length l.reader
