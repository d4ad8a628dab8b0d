use Rattle.segment_file.specs.Files.{sample_fields, stack_fields, value_field}
use Rattle.segment_file.specs.ReadFields.{alone}
use Rattle.segment_file.specs.Reading.{Begins, Stopped}
use Rattle.segment_file.proofs.ReadAnswers.{exit}
use Rattle.segment_file.proofs.ReadStacks.{sample_at_stack, sample_at_value, sample_taken}
use Rattle.segment_file.proofs.reader.Reader.sample.Goals as goal

pub returns-in_err-stack : goal.returns-in_err-stack
returns-in_err-stack c =
    let before = c.args.sums.now in
    let from = c.args.self.now.cursor in
    exit c.from_residual.result c.in_err-stack.field-0.0 _ (Stopped (Begins (stack_fields before)) from) (Stopped (Begins (sample_fields before)) from)
    c.from_residual.ensures.1 (sample_at_stack before from) c.in_err-stack.ensures.read

pub returns-in_err-value : goal.returns-in_err-value
returns-in_err-value c =
    let before = c.args.sums.now in
    let from = c.args.self.now.cursor in
    let middle = c.stack.new.self.cursor in
    exit c.from_residual-in_err-value.result c.in_err-value.field-0.0 _ (Stopped (Begins (alone (value_field before))) middle) (Stopped (Begins (sample_fields before)) from)
    c.from_residual-in_err-value.ensures.1 (λ fault s. sample_at_value before c.in_ok-stack.stack from middle fault c.in_ok-stack.ensures.read s) c.in_err-value.ensures

pub returns-in-Ok : goal.returns-in-Ok
returns-in-Ok c =
    sample_taken c.args.sums.now c.add.new.self c.in_ok-stack.stack c.in_ok-value.value c.args.self.now.cursor c.stack.new.self.cursor c.value.new.self.cursor
    c.in-Ok.ensures.ok c.in_ok-stack.ensures.above c.in_ok-stack.ensures.read c.in_ok-value.ensures
