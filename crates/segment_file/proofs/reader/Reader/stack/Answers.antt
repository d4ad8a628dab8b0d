use Rattle.std.proofs.Common.{◌-◌, [], arith}
use Rattle.segment_file.specs.Files.{stack_fields}
use Rattle.segment_file.specs.ReadFields.{alone, count_field, few_frames, inner_frame_fields}
use Rattle.segment_file.specs.Reading.{Begins, BeginsCounted, Stopped}
use Rattle.segment_file.proofs.ReadAnswers.{exit}
use Rattle.segment_file.proofs.ReadStacks.{are_frames, stack_at_count, stack_at_inner, stack_read}
use Rattle.segment_file.proofs.reader.Reader.stack.Goals as goal

pub returns-in_err-count-clause-read : goal.returns-in_err-count-clause-read
returns-in_err-count-clause-read c =
    let before = c.args.sums.now in
    let from = c.args.self.now.cursor in
    exit c.from_residual.result c.in_err-count.field-0.0 _ (Stopped (Begins (alone (count_field few_frames))) from) (Stopped (Begins (stack_fields before)) from)
    c.from_residual.ensures.1 (stack_at_count before from) c.in_err-count.ensures.read

pub returns-in_err-frames-clause-read : goal.returns-in_err-frames-clause-read
returns-in_err-frames-clause-read c =
    let before = c.args.sums.now in
    let count = c.in_ok-count.count in
    let from = c.args.self.now.cursor in
    let middle = c.frames_count.new.self.cursor in
    exit c.from_residual-in_err-frames.result c.in_err-frames.field-0.0 _ (Stopped (BeginsCounted (count - 1) inner_frame_fields) middle) (Stopped (Begins (stack_fields before)) from)
    c.from_residual-in_err-frames.ensures.1
    (λ fault s. stack_at_inner before count (count - 1) from middle fault (omega (arith, c.in_ok-count.ensures.few)) c.in_ok-count.ensures.read s) c.in_err-frames.ensures

pub last_frame-requires : goal.last_frame-requires
last_frame-requires c = record {
  few = omega (arith, c.in_ok-count.ensures.few, c.in_ok-frames.ensures.0);
  each = are_frames [] c.in_ok-frames.frames.items c.in_ok-frames.ensures.1.sound;
}

pub returns-clause-read : goal.returns-clause-read
returns-clause-read c =
    let count = c.in_ok-count.count in
    stack_read c.args.sums.now count (count - 1) c.in_ok-frames.frames.items c.args.self.now.cursor c.frames_count.new.self.cursor c.inner_frames.new.self.cursor c.last_frame.new.self.cursor
    c.last_frame.result (omega (arith, c.in_ok-count.ensures.few)) c.in_ok-count.ensures.read c.in_ok-frames.ensures c.last_frame.ensures.read
