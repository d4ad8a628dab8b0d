use Rattle.std.proofs.Common.{◌+◌, ◌-◌, ◌≤◌, length}
use Rattle.diff_render.specs.Joining.{IsJoined}
use Rattle.diff_render.proofs.both.join.Given as goal

abbrev pub invariant-loop-at : goal.invariant-loop-at
invariant-loop-at l = record {
  at : l.at ≤ length l.left.frames.now;
  beside : l.beside ≤ length l.right.frames.now;
  joined : IsJoined l.left.frames.now l.left.values.now l.at l.right.frames.now l.right.values.now l.beside l.joined.frames.items l.joined.left.items l.joined.right.items;
}

abbrev pub decreases-loop-at : goal.decreases-loop-at
decreases-loop-at l = length l.left.frames.now + length l.right.frames.now - (l.at + l.beside)
