use Rattle.std.proofs.Common.{refl, arith}
use Rattle.std.proofs.lemmas.Bool.Decides.{nat_tests}
use Rattle.faults.specs.Answers.{IfFault}
use Rattle.faults.specs.declared.refused.Refused.TheVariants.{Fault}
use Rattle.segment_file.specs.ReadFields.{alone, count_field, few_labels}
use Rattle.segment_file.specs.Reading.{Begins, Stopped}
use Rattle.segment_file.proofs.ReadAnswers.{handed}
use Rattle.segment_file.proofs.ReadLemmas.{count_cut, count_wrong}
use Rattle.segment_file.proofs.reader.Reader.labels_count.Goals as goal

pub returns-in_err-count : goal.returns-in_err-count
returns-in_err-count c =
    let from = c.args.self.now.cursor in
    handed c.from_residual.result (Fault c.in_err-count.field-0.0) _ (IfFault (Stopped (Begins (alone (count_field few_labels))) from)) c.from_residual.ensures.1
    (count_cut few_labels from c.in_err-count.field-0.0 c.in_err-count.ensures)

pub returns-then-count-gt-MAX_PROFILE_LABELS : goal.returns-then-count-gt-MAX_PROFILE_LABELS
returns-then-count-gt-MAX_PROFILE_LABELS c =
    rw c.content.ensures
    (count_wrong few_labels c.args.self.now.cursor c.four.new.self c.in_ok-count.count _ c.in_ok-count.ensures (grind (arith, nat_tests)) refl c.at-at.ensures)
