use Rattle.std.proofs.Common.{◌≡◌, false, refl, rules, sym, ◌∙◌}
use Rattle.faults.specs.Answers.{IfFault}
use Rattle.faults.specs.declared.refused.Refused.TheVariants.{Fault}
use Rattle.segment_file.specs.Files.{value_field}
use Rattle.segment_file.specs.ReadFields.{alone}
use Rattle.segment_file.specs.Reading.{Begins, Stopped}
use Rattle.segment_file.proofs.ReadAnswers.{handed}
use Rattle.segment_file.proofs.ReadStacks.{value_cut, value_wrong}
use Rattle.segment_file.proofs.reader.Reader.value.Goals as goal

pub returns-in_err-value : goal.returns-in_err-value
returns-in_err-value c =
    let before = c.args.sums.now in
    let from = c.args.self.now.cursor in
    handed c.from_residual.result (Fault c.in_err-value.field-0.0) _ (IfFault (Stopped (Begins (alone (value_field before))) from)) c.from_residual.ensures.1
    (value_cut before from c.in_err-value.field-0.0 c.in_err-value.ensures)

pub returns-then-not-is_next_value : goal.returns-then-not-is_next_value
returns-then-not-is_next_value c =
    let broken : c.is_next_value.result ≡ false = search rules in
    rw c.content.ensures
    (value_wrong c.args.sums.now c.args.self.now.cursor c.eight.new.self c.in_ok-value.value _ c.in_ok-value.ensures (sym c.is_next_value.ensures ∙ broken) refl c.at-at.ensures)
