use Rattle.std.proofs.Common.{length, subst, sym, ◌∙◌}
use Rattle.flamebearer.specs.Entries.{ArePlaces, nodes_of}
use Rattle.flamebearer.specs.Branches.{AreOrdered}
use Rattle.flamebearer.specs.Pushes.{IsPushed}
use Rattle.flamebearer.proofs.AlongLemmas.{along-end, along-none, along-push, along-whole, ready}
use Rattle.flamebearer.proofs.PartLemmas.{nodes-parts, side-parts}
use Rattle.flamebearer.proofs.tree.Tree.of.Goals as goal

pub loop-stack-init : goal.loop-stack-init
loop-stack-init c =
    rw (c.into_iter-stack-iterator.ensures.into_iter_gives, c.iter-stack-items.ensures.stacks, c.new-entries.ensures.items, c.new-spine.ensures.items)
    (along-none c.args.values.now c.iter-stack-items.ensures.sums)

pub push_stack-requires-clause-distinct : goal.push_stack-requires-clause-distinct
push_stack-requires-clause-distinct c =
    (ready _ _ _ _ _ _ c.in-Some.stack.now c.in-Some.value.now c.loop-stack.invariant c.in-Some.ensures.steps c.frames.ensures.limits.some).distinct

pub push_stack-requires-clause-fits : goal.push_stack-requires-clause-fits
push_stack-requires-clause-fits c =
    (ready _ _ _ _ _ _ c.in-Some.stack.now c.in-Some.value.now c.loop-stack.invariant c.in-Some.ensures.steps c.frames.ensures.limits.some).fits

pub loop-stack-preserved : goal.loop-stack-preserved
loop-stack-preserved c =
    let before = c.loop-stack.before.now in
    let entries = c.loop-stack.entries.items in
    let new = c.push_stack.new.entries.items in
    let after = c.push_stack.new.spine.items in
    let is = c.frames.ensures.value in
    let done = c.in_ok-push_stack.ensures in
    rw c.frames-before.ensures.value
    (along-push c.args.values.now _ _ before entries new _ after c.in-Some.stack.now c.in-Some.value.now c.loop-stack.invariant c.in-Some.ensures.steps c.frames.ensures.limits.some
    (subst (λ stack. IsPushed before stack c.in-Some.value.now (nodes_of entries) (nodes_of new)) is done.nodes)
    (done.path ∙ is)
    (subst (λ stack. ArePlaces new after stack (length stack)) is done.places)
    done.deep)

pub of-requires : goal.of-requires
of-requires c = subst AreOrdered (sym c.in_ok-into_frames.ensures) (along-whole _ _ _ _ _ c.loop-stack.invariant).ordered

pub invariant_of-result : goal.invariant_of-result
invariant_of-result c =
    let whole = along-whole _ _ _ _ _ c.loop-stack.invariant in
    rw (c.in_ok-branches.ensures, c.in_ok-values.ensures, c.deref.ensures.value, c.in_ok-into_frames.ensures) (side-parts c.loop-stack.entries.items whole.summed whole.bounded)

pub returns : goal.returns
returns c = record {
  tree = rw (c.in_ok-branches.ensures, c.in_ok-values.ensures, c.deref.ensures.value, c.in_ok-into_frames.ensures)
      (nodes-parts c.loop-stack.entries.items ∙ along-end c.args.values.now _ _ _ _ c.loop-stack.invariant c.in-None.ensures.steps.0);
}
