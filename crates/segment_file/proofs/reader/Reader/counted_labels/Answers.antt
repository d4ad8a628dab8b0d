use Rattle.std.proofs.Common.{arith}
use Rattle.faults.specs.Answers.{IfFault}
use Rattle.segment_file.specs.Files.{label_fields}
use Rattle.segment_file.specs.Reading.{Begins, BeginsCounted, Stopped}
use Rattle.segment_file.proofs.ReadAnswers.{handed, weaker}
use Rattle.segment_file.proofs.ReadLabels.{labels_at}
use Rattle.segment_file.proofs.ReadLemmas.{counted_more}
use Rattle.segment_file.proofs.reader.Reader.counted_labels.Goals as goal

pub returns-in_err-label : goal.returns-in_err-label
returns-in_err-label c =
    let before = c.loop.labels in
    let from = c.args.self.now.cursor in
    let refused = c.in_err-label.field-0.0 in
    let stop = Stopped (BeginsCounted c.args.count label_fields) from in
    handed c.from_residual-in_err-label.result refused _ (IfFault stop) c.from_residual-in_err-label.ensures.1
    (weaker (Stopped (Begins (label_fields before)) c.loop.self.cursor) stop refused
    (λ fault s. labels_at c.args.count before from c.loop.self.cursor fault (omega (arith, c.loop.invariant.0, c.loop-test.true)) c.loop.invariant.1 s) c.in_err-label.ensures)

pub loop-preserved : goal.loop-preserved
loop-preserved c =
    counted_more label_fields c.loop.labels c.label.new.labels c.loop.counter c.args.self.now.cursor c.loop.self.cursor c.label.new.self.cursor c.loop.invariant c.in_ok-label.ensures
