use Rattle.faults.specs.Answers.{IfFault}
use Rattle.faults.specs.declared.refused.Refused.TheVariants.{Fault}
use Rattle.segment_file.specs.Files.{sample_fields}
use Rattle.segment_file.specs.ReadFields.{any_count, list_fields}
use Rattle.segment_file.specs.Reading.{Begins, Stopped}
use Rattle.segment_file.proofs.ReadAnswers.{handed}
use Rattle.segment_file.proofs.ReadStacks.{samples_at_count, samples_read}
use Rattle.segment_file.proofs.reader.Reader.samples.Goals as goal

pub returns-in_err-count : goal.returns-in_err-count
returns-in_err-count c =
    let from = c.args.self.now.cursor in
    handed c.from_residual.result (Fault c.in_err-count.field-0.0) _ (IfFault (Stopped (Begins (list_fields any_count sample_fields)) from)) c.from_residual.ensures.1
    (samples_at_count from c.in_err-count.field-0.0 c.in_err-count.ensures)

pub returns : goal.returns
returns c = samples_read c.in_ok-count.count c.args.self.now.cursor c.four.new.self c.counted_samples.new.self.cursor c.counted_samples.result c.in_ok-count.ensures c.counted_samples.ensures
