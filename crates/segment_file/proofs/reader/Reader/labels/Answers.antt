use Rattle.faults.specs.Answers.{IfFault}
use Rattle.segment_file.specs.Files.{labels_fields}
use Rattle.segment_file.specs.ReadFields.{alone, count_field, few_labels}
use Rattle.segment_file.specs.Reading.{Begins, Stopped}
use Rattle.segment_file.proofs.ReadAnswers.{handed, weaker}
use Rattle.segment_file.proofs.ReadLabels.{labels_at_count, labels_read}
use Rattle.segment_file.proofs.reader.Reader.labels.Goals as goal

pub returns-in_err-count : goal.returns-in_err-count
returns-in_err-count c =
    let from = c.args.self.now.cursor in
    let refused = c.in_err-count.field-0.0 in
    let stop = Stopped (Begins labels_fields) from in
    handed c.from_residual.result refused _ (IfFault stop) c.from_residual.ensures.1
    (weaker (Stopped (Begins (alone (count_field few_labels))) from) stop refused (labels_at_count from) c.in_err-count.ensures)

pub returns : goal.returns
returns c =
    labels_read c.in_ok-count.count c.args.self.now.cursor c.labels_count.new.self.cursor c.counted_labels.new.self.cursor c.counted_labels.result c.in_ok-count.ensures c.counted_labels.ensures
