use Rattle.faults.specs.Answers.{IfFault}
use Rattle.faults.specs.declared.refused.Refused.TheVariants.{Fault}
use Rattle.segment_file.specs.ReadFields.{is_next_name}
use Rattle.segment_file.specs.ReadFields.{alone, judged}
use Rattle.segment_file.specs.Reading.{Begins, Stopped}
use Rattle.segment_file.proofs.ReadAnswers.{handed}
use Rattle.segment_file.proofs.ReadLemmas.{text_cut, text_read}
use Rattle.segment_file.proofs.reader.Reader.label_name.Goals as goal

pub returns-in_err-name : goal.returns-in_err-name
returns-in_err-name c =
    let judge = is_next_name c.args.labels.now in
    let from = c.args.self.now.cursor in
    handed c.from_residual.result (Fault c.in_err-name.field-0.0) _ (IfFault (Stopped (Begins (alone (judged judge))) from)) c.from_residual.ensures.1
    (text_cut judge from c.in_err-name.field-0.0 c.in_err-name.ensures)

pub returns : goal.returns
returns c =
    text_read (is_next_name c.args.labels.now) c.args.self.now.cursor c.text.new.self c.in_ok-name.name.now c.kept.result c.in_ok-name.ensures
    (rw (c.at-at.ensures, c.is_next_name.ensures) at c.kept.ensures)
