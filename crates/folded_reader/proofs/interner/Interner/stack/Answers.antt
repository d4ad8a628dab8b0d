use Rattle.std.proofs.Common.{rules, ◌∙◌, lit<}
use Rattle.std.specs.Arc.{arc_slice_items}
use Rattle.wire_forms.proofs.SplitLemmas.{part_turn, part_end}
use Rattle.folded_reader.proofs.FrameLemmas.{read_stack}
use Rattle.folded_reader.proofs.interner.Interner.stack.Goals as goal

pub loop-frame-preserved : goal.loop-frame-preserved
loop-frame-preserved c =
    let turn = part_turn 59 c.args.text.now (lit< tt) c.into_iter-frame-iterator.result c.loop-frame.frame-iterator c.next.new.self c.next.result c.loop-frame.yielded c.in-Some.frame
    (search rules) (search rules) (search rules) c.loop-frame.yielded_by c.in-Some.is c.next.ensures.steps in
    rw (turn.pushed, c.in_ok-push.ensures.items, c.loop-frame.invariant, c.in_ok-name.ensures)

pub unreachable-requires : goal.unreachable-requires
unreachable-requires c =
    let end = part_end 59 c.args.text.now (lit< tt) c.into_iter-frame-iterator.result c.loop-frame.frame-iterator c.next.new.self c.next.result c.loop-frame.yielded
    (search rules) (search rules) (search rules) c.loop-frame.yielded_by c.in-None.is c.next.ensures.steps in
    read_stack (arc_slice_items c.in_ok-from_vec.field-0) c.in-Err.field-0 (rw (c.in_ok-from_vec.ensures, c.loop-frame.invariant, end.0) c.requires) c.in-Err.ensures.read

pub returns : goal.returns
returns c =
    let end = part_end 59 c.args.text.now (lit< tt) c.into_iter-frame-iterator.result c.loop-frame.frame-iterator c.next.new.self c.next.result c.loop-frame.yielded
    (search rules) (search rules) (search rules) c.loop-frame.yielded_by c.in-None.is c.next.ensures.steps in
    c.in-Ok.ensures.read.1 ∙ c.in_ok-from_vec.ensures ∙ c.loop-frame.invariant ∙ end.0
