use Rattle.faults.specs.Answers.{IfFault}
use Rattle.faults.specs.declared.refused.Refused.TheVariants.{Fault}
use Rattle.segment_file.specs.Files.{is_frame}
use Rattle.segment_file.specs.ReadFields.{alone, judged}
use Rattle.segment_file.specs.Reading.{Begins, Stopped}
use Rattle.segment_file.proofs.ReadAnswers.{handed}
use Rattle.segment_file.proofs.ReadLemmas.{text_cut, text_read}
use Rattle.segment_file.proofs.reader.Reader.frame.Goals as goal

pub returns-in_err-frame : goal.returns-in_err-frame
returns-in_err-frame c =
    let judge = is_frame in
    let from = c.args.self.now.cursor in
    handed c.from_residual.result (Fault c.in_err-frame.field-0.0) _ (IfFault (Stopped (Begins (alone (judged judge))) from)) c.from_residual.ensures.1
    (text_cut judge from c.in_err-frame.field-0.0 c.in_err-frame.ensures)

pub returns : goal.returns
returns c =
    text_read (is_frame) c.args.self.now.cursor c.text.new.self c.in_ok-frame.frame.now c.kept.result c.in_ok-frame.ensures
    (rw (c.at-at.ensures, c.is_frame.ensures) at c.kept.ensures)
