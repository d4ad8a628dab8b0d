use Rattle.std.proofs.Common.{refl}
use Rattle.diff_render.proofs.JoinLemmas.{has_value, joined_both, joined_left, joined_right, turn_rest, turned_both, turned_left, turned_right}
use Rattle.diff_render.proofs.both.push_next.Goals as goal

pub bounds-left-at-in-Less : goal.bounds-left-at-in-Less
bounds-left-at-in-Less c =
    has_value c.args.left.frames.now c.args.left.values.now c.args.at c.requires.left
    (turned_left c.args.left.frames.now c.args.left.values.now c.args.at c.args.right.frames.now c.args.right.values.now c.args.beside _ _ _
    c.requires.left c.requires.right c.requires.joined c.requires.more
    (turn_rest c.args.left.frames.now c.args.at c.args.right.frames.now c.args.beside c.turn.result _ c.turn.ensures c.in-Less.is)).0

pub bounds-right-beside-in-Greater : goal.bounds-right-beside-in-Greater
bounds-right-beside-in-Greater c =
    has_value c.args.right.frames.now c.args.right.values.now c.args.beside c.requires.right
    (turned_right c.args.left.frames.now c.args.left.values.now c.args.at c.args.right.frames.now c.args.right.values.now c.args.beside _ _ _
    c.requires.left c.requires.right c.requires.joined c.requires.more
    (turn_rest c.args.left.frames.now c.args.at c.args.right.frames.now c.args.beside c.turn.result _ c.turn.ensures c.in-Greater.is)).0

pub bounds-left-at-in-Equal-2 : goal.bounds-left-at-in-Equal-2
bounds-left-at-in-Equal-2 c =
    has_value c.args.left.frames.now c.args.left.values.now c.args.at c.requires.left
    (turned_both c.args.left.frames.now c.args.left.values.now c.args.at c.args.right.frames.now c.args.right.values.now c.args.beside _ _ _
    c.requires.left c.requires.right c.requires.joined c.requires.more
    (turn_rest c.args.left.frames.now c.args.at c.args.right.frames.now c.args.beside c.turn.result _ c.turn.ensures c.in-Equal.is)).0

pub returns-in_ok-push-in-Less-clause-joined : goal.returns-in_ok-push-in-Less-clause-joined
returns-in_ok-push-in-Less-clause-joined c =
    rw (c.in_ok-push-in-Less.ensures.frames, c.in_ok-push-in-Less.ensures.left, c.in_ok-push-in-Less.ensures.right)
    (joined_left c.args.left.frames.now c.args.left.values.now c.args.at c.args.right.frames.now c.args.right.values.now c.args.beside _ _ _ _ _ _
    c.requires.left c.requires.right c.requires.joined c.requires.more
    (turn_rest c.args.left.frames.now c.args.at c.args.right.frames.now c.args.beside c.turn.result _ c.turn.ensures c.in-Less.is) refl refl)

pub returns-in_ok-push-in-Greater-clause-joined : goal.returns-in_ok-push-in-Greater-clause-joined
returns-in_ok-push-in-Greater-clause-joined c =
    rw (c.in_ok-push-in-Greater.ensures.frames, c.in_ok-push-in-Greater.ensures.left, c.in_ok-push-in-Greater.ensures.right)
    (joined_right c.args.left.frames.now c.args.left.values.now c.args.at c.args.right.frames.now c.args.right.values.now c.args.beside _ _ _ _ _ _
    c.requires.left c.requires.right c.requires.joined c.requires.more
    (turn_rest c.args.left.frames.now c.args.at c.args.right.frames.now c.args.beside c.turn.result _ c.turn.ensures c.in-Greater.is) refl refl)

pub returns-in_ok-push-in-Equal-clause-joined : goal.returns-in_ok-push-in-Equal-clause-joined
returns-in_ok-push-in-Equal-clause-joined c =
    rw (c.in_ok-push-in-Equal.ensures.frames, c.in_ok-push-in-Equal.ensures.left, c.in_ok-push-in-Equal.ensures.right)
    (joined_both c.args.left.frames.now c.args.left.values.now c.args.at c.args.right.frames.now c.args.right.values.now c.args.beside _ _ _ _ _ _
    c.requires.left c.requires.right c.requires.joined c.requires.more
    (turn_rest c.args.left.frames.now c.args.at c.args.right.frames.now c.args.beside c.turn.result _ c.turn.ensures c.in-Equal.is))
