use Rattle.std.proofs.Common.{◌≡◌, ℕ, List, false, refl, rules, subst, sym, ◌∙◌}
use Rattle.faults.specs.Answers.{IfFault}
use Rattle.faults.specs.declared.refused.Refused.TheVariants.{Fault}
use Rattle.segment_file.specs.ReadFields.{alone, is_tenant, judged}
use Rattle.segment_file.specs.Reading.{Begins, Stopped, Took}
use Rattle.segment_file.proofs.ReadAnswers.{handed}
use Rattle.segment_file.proofs.ReadFiles.{tenant_right, tenant_wrong}
use Rattle.segment_file.proofs.ReadLemmas.{text_cut}
use Rattle.segment_file.proofs.reader.Reader.tenant.Goals as goal

pub returns-in_err-bytes : goal.returns-in_err-bytes
returns-in_err-bytes c =
    let from = c.args.self.now.cursor in
    handed c.from_residual.result (Fault c.in_err-bytes.field-0.0) _ (IfFault (Stopped (Begins (alone (judged is_tenant))) from)) c.from_residual.ensures.1
    (text_cut is_tenant from c.in_err-bytes.field-0.0 c.in_err-bytes.ensures)

pub returns-then-not-is_tenant : goal.returns-then-not-is_tenant
returns-then-not-is_tenant c =
    let low : c.is_tenant.result ≡ false = search rules in
    rw c.content.ensures
    (tenant_wrong c.args.self.now.cursor c.text.new.self c.in_ok-bytes.bytes.now _ c.in_ok-bytes.ensures (sym c.is_tenant.ensures ∙ low) refl c.at-at.ensures)

pub returns-in-Ok : goal.returns-in-Ok
returns-in-Ok c =
    subst (λ (t : List ℕ). Took (alone (judged is_tenant) t) c.args.self.now.cursor c.text.new.self) (sym c.in-Ok.ensures.read.1)
    (tenant_right c.args.self.now.cursor c.text.new.self c.in_ok-bytes.bytes.now c.in_ok-bytes.ensures c.in-Ok.ensures.read.0)
