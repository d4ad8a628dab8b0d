use Rattle.std.proofs.Common.{◌≡◌, ◌<◌, length, sym, ap, subst, ◌∙◌}
use Rattle.wire_proto.specs.declared.field.WireFault.{WireFault}
use Rattle.wire_proto.specs.declared.field.Next.TheVariants as next
use Rattle.wire_proto.specs.Field.{IsFault}
use Rattle.wire_proto.specs.Reading.{field_at, FieldReads}
use Rattle.wire_proto.proofs.FieldAgain.{fault_again}
use Rattle.wire_proto.proofs.Messages.{fields_of-none, fields_of-field, fields_of-fault, some_from, not_both, same_field, no_field, same_fault}
use Rattle.wire_proto.proofs.fields.Fields.next.Goals as goal

pub returns-then-is_empty-clause-reads : goal.returns-then-is_empty-clause-reads
returns-then-is_empty-clause-reads c = rw (← c.self.view_is) (fields_of-none c.self.inside.left.now c.self.inside.at (sym c.is_empty.ensures ∙ c.if-is_empty.true))

pub returns-in-Ok-clause-reads : goal.returns-in-Ok-clause-reads
returns-in-Ok-clause-reads c =
    let some : 0 < length c.self.inside.left.now = some_from _ (sym c.is_empty.ensures ∙ c.if-is_empty.false) in
    rw (← c.self.view_is) (fields_of-field c.self.inside.left.now c.self.inside.at c.in-Ok.number _ c.in-Ok.rest.now some c.in-Ok.ensures.exact)

pub returns-in-Ok-clause-only : goal.returns-in-Ok-clause-only
returns-in-Ok-clause-only c =
    rw (← c.self.view_is) (λ f spelling rest. same_field c.self.inside.left.now spelling rest c.in-Ok.rest.now c.self.inside.at c.in-Ok.number _ f c.in-Ok.ensures.exact)

pub returns-in-Ok-clause-refuses : goal.returns-in-Ok-clause-refuses
returns-in-Ok-clause-refuses c =
    rw (← c.self.view_is) (λ fault. (λ e. absurd cc, λ h. absurd (not_both (field_at c.self.inside.at c.self.inside.left.now) _ fault c.in-Ok.ensures.exact (fault_again c.self.inside.at c.self.inside.left.now fault h))))

pub returns-in-Err-clause-reads : goal.returns-in-Err-clause-reads
returns-in-Err-clause-reads c =
    let some : 0 < length c.self.inside.left.now = some_from _ (sym c.is_empty.ensures ∙ c.if-is_empty.false) in
    rw (← c.self.view_is) (fields_of-fault c.self.inside.left.now c.self.inside.at c.in-Err.fault some c.in-Err.ensures.exact)

pub returns-in-Err-clause-only : goal.returns-in-Err-clause-only
returns-in-Err-clause-only c = rw (← c.self.view_is) (λ f spelling rest. no_field c.self.inside.left.now spelling rest c.self.inside.at c.in-Err.fault f c.in-Err.ensures.exact)

pub returns-in-Err-clause-refuses : goal.returns-in-Err-clause-refuses
returns-in-Err-clause-refuses c =
    let left = c.self.inside.left.now in
    let at = c.self.inside.at in
    let P : WireFault → Type 0 = IsFault left at in
    let Q = FieldReads at left in
    let found : P c.in-Err.fault = subst Q c.in-Err.ensures.exact c.in-Err.ensures.spelled in
    rw (← c.self.view_is) (λ fault. (λ e. let same : c.in-Err.fault ≡ fault = cc in subst P same found, λ h. ap next.Fault (same_fault left at c.in-Err.fault fault c.in-Err.ensures.exact h)))
