use Rattle.std.proofs.Common.{arith}
use Rattle.segment_file.specs.Files.{is_frame}
use Rattle.segment_file.specs.ReadFields.{alone, inner_frame_fields, judged}
use Rattle.segment_file.specs.Reading.{Begins, BeginsCounted, Stopped}
use Rattle.segment_file.proofs.ReadAnswers.{exit}
use Rattle.segment_file.proofs.ReadLemmas.{counted_more}
use Rattle.segment_file.proofs.ReadStacks.{frames_at}
use Rattle.segment_file.proofs.reader.Reader.inner_frames.Goals as goal

pub returns-in_err-frame : goal.returns-in_err-frame
returns-in_err-frame c =
    let from = c.args.self.now.cursor in
    exit c.from_residual.result c.in_err-frame.field-0.0 _ (Stopped (Begins (alone (judged is_frame))) c.loop.self.cursor) (Stopped (BeginsCounted c.args.count inner_frame_fields) from)
    c.from_residual.ensures.1
    (λ fault s. frames_at c.args.count c.loop.frames.items from c.loop.self.cursor fault (omega (arith, c.loop.invariant.0, c.loop-test.true)) c.loop.invariant.1 s)
    c.in_err-frame.ensures

pub loop-preserved : goal.loop-preserved
loop-preserved c =
    counted_more inner_frame_fields c.loop.frames.items c.push.new.self.items c.loop.counter c.args.self.now.cursor c.loop.self.cursor c.frame.new.self.cursor c.loop.invariant
    (c.in_ok-frame.frame, c.in_ok-push.ensures.items, c.in_ok-frame.ensures)
