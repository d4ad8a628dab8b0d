use Rattle.faults.specs.Answers.{IfFault}
use Rattle.faults.specs.declared.refused.Refused.TheVariants.{Fault}
use Rattle.segment_file.specs.ReadFields.{is_part}
use Rattle.segment_file.specs.ReadFields.{alone, judged}
use Rattle.segment_file.specs.Reading.{Begins, Stopped}
use Rattle.segment_file.proofs.ReadAnswers.{handed}
use Rattle.segment_file.proofs.ReadLemmas.{text_cut, text_read}
use Rattle.segment_file.proofs.reader.Reader.part.Goals as goal

pub returns-in_err-part : goal.returns-in_err-part
returns-in_err-part c =
    let judge = is_part in
    let from = c.args.self.now.cursor in
    handed c.from_residual.result (Fault c.in_err-part.field-0.0) _ (IfFault (Stopped (Begins (alone (judged judge))) from)) c.from_residual.ensures.1
    (text_cut judge from c.in_err-part.field-0.0 c.in_err-part.ensures)

pub returns : goal.returns
returns c =
    text_read (is_part) c.args.self.now.cursor c.text.new.self c.in_ok-part.part.now c.kept.result c.in_ok-part.ensures
    (rw (c.at-at.ensures, c.is_part.ensures) at c.kept.ensures)
