use Rattle.std.proofs.Common.{ℕ, List, subst, arith}
use Rattle.std.specs.List.{All}
use Rattle.std.specs.Str.{IsUtf8}
use Rattle.segment_file.proofs.EncodeLemmas.{known_all, known_next}
use Rattle.segment_file.proofs.rules.look_at_stack.Goals as goal

pub loop-frame-preserved : goal.loop-frame-preserved
loop-frame-preserved c =
    record {
      frames = known_next IsUtf8 c.frames-frames.result.now c.loop-frame.frame-index c.frame-item.result (omega arith) c.frame-item.is c.as_bytes-frame.ensures.utf8 c.loop-frame.invariant.frames;
    }

pub returns-clause-frames : goal.returns-clause-frames
returns-clause-frames c =
    subst (λ (l : List (List ℕ)). All IsUtf8 l) c.frames-frames.ensures.value
    (known_all IsUtf8 c.frames-frames.result.now c.loop-frame.frame-index (omega arith) c.loop-frame.invariant.frames)
