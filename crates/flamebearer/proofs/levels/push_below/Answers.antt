use Rattle.std.proofs.Common.{◌++◌, arith, sym, ap, ◌∙◌, append-nil}
use Rattle.flamebearer.proofs.GrowLemmas.{along-kept, along-left, along-none, grown, other_spot, room}
use Rattle.flamebearer.proofs.levels.push_below.Goals as goal
use Rattle.flamebearer.proofs.levels.push_below.Goals.{then-kept-at+in_ok-push, else-kept-at}

pub loop-at-init : goal.loop-at-init
loop-at-init c =
    rw c.reach-first.ensures.first
    (along-none c.args.ends.now c.args.values.now c.args.kept.now c.args.spot c.args.next.now.items c.requires.spans c.requires.spot)

pub with_one_more-requires : goal.with_one_more-requires
with_one_more-requires c =
    let room = room c.args.ends.now c.args.values.now c.args.kept.now c.args.spot c.args.next.now.items c.loop-at.next.items c.loop-at.begin c.loop-at.left c.loop-at.at
    c.requires.spans c.requires.spot c.loop-at.invariant (omega arith) in
    let fits = room.room in
    let bounded = room.bounded in omega arith

pub loop-at-preserved : goal.loop-at-preserved
loop-at-preserved c =
    elim c.if-kept-at.branch [
      | then-kept-at+in_ok-push w ↦
          rw (w.next-is, w.begin-is, w.left-is, w.in_ok-push.ensures.items)
          (along-kept c.args.ends.now c.args.values.now c.args.kept.now c.args.spot c.args.next.now.items c.loop-at.next.items c.loop-at.begin c.loop-at.left c.loop-at.at
          c.requires.spans c.requires.spot c.loop-at.invariant (omega arith) w.if-kept-at.true)
      | else-kept-at w ↦
          rw (w.next-is, w.begin-is, w.left-is, w.with_one_more.ensures)
          (along-left c.args.ends.now c.args.values.now c.args.kept.now c.args.spot c.args.next.now.items c.loop-at.next.items c.loop-at.begin c.loop-at.left c.loop-at.at
          c.requires.spans c.requires.spot c.loop-at.invariant (omega arith) w.if-kept-at.false)
    ]

pub returns-in_ok-push-2 : goal.returns-in_ok-push-2
returns-in_ok-push-2 c =
    grown c.args.ends.now c.args.values.now c.args.kept.now c.args.spot c.args.next.now.items c.loop-at.next.items _ c.loop-at.begin c.loop-at.left c.loop-at.at c.requires.spans c.requires.spot
    c.loop-at.invariant (omega arith) (c.in_ok-push-2.ensures.items ∙ ap (λ left. c.loop-at.next.items ++ other_spot left c.loop-at.begin) (sym c.in-Some.is))

pub returns-in_default : goal.returns-in_default
returns-in_default c =
    grown c.args.ends.now c.args.values.now c.args.kept.now c.args.spot c.args.next.now.items c.loop-at.next.items _ c.loop-at.begin c.loop-at.left c.loop-at.at c.requires.spans c.requires.spot
    c.loop-at.invariant (omega arith) (sym (append-nil c.loop-at.next.items) ∙ ap (λ left. c.loop-at.next.items ++ other_spot left c.loop-at.begin) (sym c.in_default.is))
