use Rattle.std.proofs.Common.{◌≡◌, ◌≤◌, ℕ, length, arith, subst}
use Rattle.diff_render.specs.Joining.{IsJoined}
use Rattle.diff_render.proofs.EndLemmas.{joined_none}
use Rattle.diff_render.proofs.both.join.Goals as goal

pub loop-at-init : goal.loop-at-init
loop-at-init c = record {
  at = omega arith;
  beside = omega arith;
  joined = rw (c.new-joined.ensures.frames, c.new-joined.ensures.left, c.new-joined.ensures.right)
      (joined_none c.args.left.frames.now c.args.left.values.now c.args.right.frames.now c.args.right.values.now);
}

both_ways : (m n : ℕ) → m ≤ n → n ≤ m → m ≡ n
both_ways m n few many = omega (arith, few, many)

pub returns : goal.returns
returns c =
    let at = both_ways _ _ c.loop-at.invariant.at c.if-at-left.false in
    let beside = both_ways _ _ c.loop-at.invariant.beside c.if-beside-right.false in
    subst (λ n. IsJoined c.args.left.frames.now c.args.left.values.now n c.args.right.frames.now c.args.right.values.now (length c.args.right.frames.now)
    c.loop-at.joined.frames.items c.loop-at.joined.left.items c.loop-at.joined.right.items) at
    (subst (λ n. IsJoined c.args.left.frames.now c.args.left.values.now c.loop-at.at c.args.right.frames.now c.args.right.values.now n
    c.loop-at.joined.frames.items c.loop-at.joined.left.items c.loop-at.joined.right.items) beside c.loop-at.invariant.joined)
