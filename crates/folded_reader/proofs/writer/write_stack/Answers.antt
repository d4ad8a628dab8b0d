use Rattle.std.proofs.Common.{◌++◌, ◌∙◌, ap, map, arith}
use Rattle.folded_reader.specs.Written.{written_byte}
use Rattle.folded_reader.proofs.WriterLemmas.{first_frame, later_frame}
use Rattle.folded_reader.proofs.writer.write_stack.Goals as goal
use Rattle.folded_reader.proofs.writer.write_stack.Goals.{then-at-gt0+in_ok-push, else-at-gt0}

pub loop-at-preserved : goal.loop-at-preserved
loop-at-preserved c =
    let frame = c.frame-item.result in
    let all = c.frames-frame-items.result.now in
    elim c.if-at-gt0.branch [
      | then-at-gt0+in_ok-push w ↦
          c.in_ok-write_frame.ensures ∙ ap (λ v. v.items ++ map written_byte frame) w.text-is ∙ ap (λ t. t ++ map written_byte frame) w.in_ok-push.ensures.items
          ∙ later_frame c.args.text.now.items c.loop-at.text.items all c.loop-at.at frame (omega arith) c.frame-item.is (omega arith) c.loop-at.invariant
      | else-at-gt0 w ↦
          c.in_ok-write_frame.ensures ∙ ap (λ v. v.items ++ map written_byte frame) w.text-is
          ∙ first_frame c.args.text.now.items c.loop-at.text.items all c.loop-at.at frame (omega arith) c.frame-item.is (omega arith) c.loop-at.invariant
    ]
