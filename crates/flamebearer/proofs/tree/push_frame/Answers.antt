use Rattle.std.proofs.Common.{◌≡◌, ◌+◌, ◌∷◌, [], ◌++◌, take, ap, arith, refl, ◌∙◌}
use Rattle.std.specs.Prelude.{if◌then◌else◌}
use Rattle.std.proofs.lemmas.List.{get_or_default}
use Rattle.profile_model.specs.StackOrder.{stack_eq}
use Rattle.flamebearer.proofs.NodeLemmas.{deep-pushed, frame-pushed, own-last, own-more, places-more}
use Rattle.flamebearer.proofs.tree.push_frame.Goals as goal
use Rattle.flamebearer.proofs.tree.push_frame.Goals.{then-at-frames, else-at-frames}

pub returns-clause-nodes : goal.returns-clause-nodes
returns-clause-nodes c =
    let frames = c.args.frames.now in
    let at = c.args.at in
    let own : c.if-at-frames.own ≡ (if stack_eq (take (at + 1) frames) frames then c.args.value else 0) = elim c.if-at-frames.branch [
      | then-at-frames w ↦ w.own-is ∙ own-last frames at c.args.value (omega arith)
      | else-at-frames w ↦ w.own-is ∙ own-more frames at c.args.value (omega arith) (λ last. absurd (omega arith))
    ] in
    (frame-pushed c.args.entries.now.items _ _ frames at c.args.value c.requires.within c.requires.path
    (record { name = c.in_ok-clone.ensures.cases ∙ c.index-frames-at.is ∙ get_or_default frames at c.index-frames-at.result [] c.requires.within; depth = refl; own = own; total = refl }) c.in_ok-push-2.ensures.items).0

pub returns-clause-path : goal.returns-clause-path
returns-clause-path c =
    let frames = c.args.frames.now in
    let at = c.args.at in
    let own : c.if-at-frames.own ≡ (if stack_eq (take (at + 1) frames) frames then c.args.value else 0) = elim c.if-at-frames.branch [
      | then-at-frames w ↦ w.own-is ∙ own-last frames at c.args.value (omega arith)
      | else-at-frames w ↦ w.own-is ∙ own-more frames at c.args.value (omega arith) (λ last. absurd (omega arith))
    ] in
    (frame-pushed c.args.entries.now.items _ _ frames at c.args.value c.requires.within c.requires.path
    (record { name = c.in_ok-clone.ensures.cases ∙ c.index-frames-at.is ∙ get_or_default frames at c.index-frames-at.result [] c.requires.within; depth = refl; own = own; total = refl }) c.in_ok-push-2.ensures.items).1

pub returns-clause-places : goal.returns-clause-places
returns-clause-places c =
    places-more c.args.entries.now.items _ _ c.args.spine.now.items _ c.args.frames.now c.args.at c.args.value c.requires.places c.in_ok-push-2.ensures.items
    (c.in_ok-push.ensures.items ∙ ap (λ n. c.args.spine.now.items ++ n ∷ []) (c.len.ensures ∙ c.args.entries.now.ok.0)) (returns-clause-nodes c)

pub returns-clause-deep : goal.returns-clause-deep
returns-clause-deep c =
    deep-pushed c.args.entries.now.items _ _ c.args.frames.now c.args.at c.args.value c.requires.within refl c.in_ok-push-2.ensures.items (returns-clause-nodes c)
