use Rattle.std.proofs.Common.{◌<◌, ◌≤◌, ◌==◌, length, take, rules, arith, refl, sym, ◌∙◌, subst, lit<}
use Rattle.std.specs.List.{All, Any}
use Rattle.std.proofs.lemmas.List.{length_push}
use Rattle.std.proofs.lemmas.List.Elements.{All-push}
use Rattle.std.proofs.lemmas.List.Splits.{length-slice_split}
use Rattle.profile_model.specs.Limits.{most_frame_bytes}
use Rattle.folded_reader.specs.Lines.{frames_of}
use Rattle.folded_reader.proofs.FrameLemmas.{Any-push, TellsLong-push, stack_of, empty_from_test, named_from_test}
use Rattle.wire_forms.proofs.SplitLemmas.{part_turn, part_end}
use Rattle.folded_reader.proofs.frames.depth_of.Goals as goal
use Rattle.folded_reader.proofs.frames.depth_of.Goals.{then-frame-gt-MAX_FRAME_BYTES, else-frame-gt-MAX_FRAME_BYTES}

pub returns-then-is_empty : goal.returns-then-is_empty
returns-then-is_empty c =
    let turn = part_turn 59 c.args.text.now (lit< tt) c.into_iter-frame-iterator.result c.loop-frame.frame-iterator c.next.new.self c.next.result c.loop-frame.yielded c.in-Some.frame
    (search rules) (search rules) (search rules) c.loop-frame.yielded_by c.in-Some.is c.next.ensures.steps in
    (refl, (length c.loop-frame.yielded, c.in-Some.frame.now, turn.within, sym turn.is, empty_from_test _ _ c.is_empty.ensures c.if-is_empty.true))

pub loop-frame-preserved : goal.loop-frame-preserved
loop-frame-preserved c =
    let turn = part_turn 59 c.args.text.now (lit< tt) c.into_iter-frame-iterator.result c.loop-frame.frame-iterator c.next.new.self c.next.result c.loop-frame.yielded c.in-Some.frame
    (search rules) (search rules) (search rules) c.loop-frame.yielded_by c.in-Some.is c.next.ensures.steps in
    let before = take (length c.loop-frame.yielded) (frames_of c.args.text.now) in
    let frame = c.in-Some.frame.now in
    record {
      counted = let count = length_push c.loop-frame.yielded c.in-Some.frame in let old = c.loop-frame.invariant.counted in omega arith;
      named =
          rw turn.pushed
          (All-push (λ f. 0 < length f) before frame c.loop-frame.invariant.named (named_from_test _ _ c.is_empty.ensures c.if-is_empty.false));
      long = elim c.if-frame-gt-MAX_FRAME_BYTES.branch [
        | then-frame-gt-MAX_FRAME_BYTES w ↦ rw (w.has_long-is, turn.pushed) (Any-push (λ f. most_frame_bytes < length f) before frame (omega arith))
        | else-frame-gt-MAX_FRAME_BYTES w ↦ rw (w.has_long-is, turn.pushed) (TellsLong-push c.loop-frame.has_long before frame (omega arith) c.loop-frame.invariant.long)
      ];
    }

pub returns-then-depth-gt-MAX_FRAMES : goal.returns-then-depth-gt-MAX_FRAMES
returns-then-depth-gt-MAX_FRAMES c =
    let end = part_end 59 c.args.text.now (lit< tt) c.into_iter-frame-iterator.result c.loop-frame.frame-iterator c.next.new.self c.next.result c.loop-frame.yielded
    (search rules) (search rules) (search rules) c.loop-frame.yielded_by c.in-None.is c.next.ensures.steps in
    let count = c.loop-frame.invariant.counted in
    (refl, subst (All (λ f. 0 < length f)) end.0 c.loop-frame.invariant.named, omega arith)

pub returns-then-has_long : goal.returns-then-has_long
returns-then-has_long c =
    let end = part_end 59 c.args.text.now (lit< tt) c.into_iter-frame-iterator.result c.loop-frame.frame-iterator c.next.new.self c.next.result c.loop-frame.yielded
    (search rules) (search rules) (search rules) c.loop-frame.yielded_by c.in-None.is c.next.ensures.steps in
    let count = c.loop-frame.invariant.counted in (
      refl,
      subst (All (λ f. 0 < length f)) end.0 c.loop-frame.invariant.named,
      omega arith,
      subst (Any (λ f. most_frame_bytes < length f)) end.0 (rw c.if-has_long.true at c.loop-frame.invariant.long),
    )

pub returns : goal.returns
returns c =
    let end = part_end 59 c.args.text.now (lit< tt) c.into_iter-frame-iterator.result c.loop-frame.frame-iterator c.next.new.self c.next.result c.loop-frame.yielded
    (search rules) (search rules) (search rules) c.loop-frame.yielded_by c.in-None.is c.next.ensures.steps in
    let count = c.loop-frame.invariant.counted in
    let some = length-slice_split (λ b. b == 59) c.args.text.now in (
      count ∙ end.1,
      stack_of (frames_of c.args.text.now) (omega arith) (omega arith) (subst (All (λ f. 0 < length f)) end.0 c.loop-frame.invariant.named)
          (subst (All (λ f. length f ≤ most_frame_bytes)) end.0 (rw c.if-has_long.false at c.loop-frame.invariant.long)),
    )
