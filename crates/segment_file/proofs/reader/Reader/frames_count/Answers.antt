use Rattle.std.proofs.Common.{refl, rules, sym, ◌∙◌}
use Rattle.faults.specs.Answers.{IfFault}
use Rattle.faults.specs.declared.refused.Refused.TheVariants.{Fault}
use Rattle.segment_file.specs.ReadFields.{alone, count_field, few_frames}
use Rattle.segment_file.specs.Reading.{Begins, Stopped}
use Rattle.segment_file.proofs.ReadAnswers.{handed}
use Rattle.segment_file.proofs.ReadLemmas.{count_cut, count_wrong}
use Rattle.segment_file.proofs.reader.Reader.frames_count.Goals as goal

pub returns-in_err-count-clause-read : goal.returns-in_err-count-clause-read
returns-in_err-count-clause-read c =
    let from = c.args.self.now.cursor in
    handed c.from_residual.result (Fault c.in_err-count.field-0.0) _ (IfFault (Stopped (Begins (alone (count_field few_frames))) from)) c.from_residual.ensures.1
    (count_cut few_frames from c.in_err-count.field-0.0 c.in_err-count.ensures)

pub returns-then-not-are_few_frames-clause-read : goal.returns-then-not-are_few_frames-clause-read
returns-then-not-are_few_frames-clause-read c =
    rw c.content.ensures
    (count_wrong few_frames c.args.self.now.cursor c.four.new.self c.in_ok-count.count _ c.in_ok-count.ensures (sym c.are_few_frames.ensures ∙ search rules) refl c.at-at.ensures)
