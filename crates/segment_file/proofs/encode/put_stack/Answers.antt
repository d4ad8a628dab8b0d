use Rattle.std.proofs.Common.{ℕ, List, subst, arith}
use Rattle.std.specs.List.{All}
use Rattle.std.specs.Str.{IsUtf8}
use Rattle.segment_file.specs.Bytes.{text_bytes}
use Rattle.segment_file.proofs.EncodeLemmas.{known_all, known_next, written_next}
use Rattle.segment_file.proofs.encode.put_stack.Goals as goal

pub loop-frame-preserved : goal.loop-frame-preserved
loop-frame-preserved c =
    let at = c.loop-frame.frame-index in
    let frames = c.frames-frames.result.now in
    let frame = c.frame-item.result in
    record {
      bytes = written_next text_bytes frames at frame c.loop-frame.out.items c.put_text.new.out.items _ (omega arith) c.frame-item.is c.loop-frame.invariant.bytes c.in_ok-put_text.ensures.bytes;
      frames = known_next IsUtf8 frames at frame (omega arith) c.frame-item.is c.in_ok-put_text.ensures.utf8 c.loop-frame.invariant.frames;
    }

pub returns-clause-frames : goal.returns-clause-frames
returns-clause-frames c =
    subst (λ (l : List (List ℕ)). All IsUtf8 l) c.frames-frames.ensures.value
    (known_all IsUtf8 c.frames-frames.result.now c.loop-frame.frame-index (omega arith) c.loop-frame.invariant.frames)
