use Rattle.faults.specs.Answers.{IfFault}
use Rattle.faults.specs.declared.refused.Refused.TheVariants.{Fault}
use Rattle.segment_file.specs.ReadFields.{alone, time_field}
use Rattle.segment_file.specs.Reading.{Begins, Stopped}
use Rattle.segment_file.proofs.ReadAnswers.{handed}
use Rattle.segment_file.proofs.ReadProfiles.{time_cut}
use Rattle.segment_file.proofs.reader.Reader.time.Goals as goal

pub returns-in_err-eight : goal.returns-in_err-eight
returns-in_err-eight c =
    let from = c.args.self.now.cursor in
    handed c.from_residual.result (Fault c.in_err-eight.field-0.0) _ (IfFault (Stopped (Begins (alone time_field)) from)) c.from_residual.ensures.1
    (time_cut from c.in_err-eight.field-0.0 c.in_err-eight.ensures)
