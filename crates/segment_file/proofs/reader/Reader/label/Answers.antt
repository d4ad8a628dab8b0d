use Rattle.faults.specs.Answers.{IfFault}
use Rattle.segment_file.specs.Files.{label_fields}
use Rattle.segment_file.specs.ReadFields.{alone, is_label_value, is_next_name, judged}
use Rattle.segment_file.specs.Reading.{Begins, Stopped}
use Rattle.segment_file.proofs.ReadAnswers.{handed, weaker}
use Rattle.segment_file.proofs.ReadLabels.{label_at_name, label_at_value, label_taken}
use Rattle.segment_file.proofs.reader.Reader.label.Goals as goal

pub returns-in_err-name : goal.returns-in_err-name
returns-in_err-name c =
    let before = c.args.labels.now in
    let from = c.args.self.now.cursor in
    let refused = c.in_err-name.field-0.0 in
    let stop = Stopped (Begins (label_fields before)) from in
    handed c.from_residual.result refused _ (IfFault stop) c.from_residual.ensures.1
    (weaker (Stopped (Begins (alone (judged (is_next_name before)))) from) stop refused (label_at_name before from) c.in_err-name.ensures)

pub returns-in_err-value : goal.returns-in_err-value
returns-in_err-value c =
    let before = c.args.labels.now in
    let from = c.args.self.now.cursor in
    let refused = c.in_err-value.field-0.0 in
    let stop = Stopped (Begins (label_fields before)) from in
    let middle = c.label_name.new.self.cursor in
    handed c.from_residual-in_err-value.result refused _ (IfFault stop) c.from_residual-in_err-value.ensures.1
    (weaker (Stopped (Begins (alone (judged is_label_value))) middle) stop refused (λ fault s. label_at_value before c.in_ok-name.name from middle fault c.in_ok-name.ensures s) c.in_err-value.ensures)

pub returns : goal.returns
returns c =
    label_taken c.args.labels.now c.set.new.self c.in_ok-name.name c.in_ok-value.value c.args.self.now.cursor c.label_name.new.self.cursor c.label_value.new.self.cursor
    c.in_ok-set.ensures.ok c.in_ok-name.ensures c.in_ok-value.ensures
