use Rattle.std.proofs.Common.{◌≤◌, length}
use Rattle.flamebearer.specs.Ends.{AreEnds}
use Rattle.flamebearer.specs.Branches.{depths_of}
use Rattle.flamebearer.proofs.branches.ends_of.Given as goal

abbrev pub invariant-loop-at : goal.invariant-loop-at
invariant-loop-at l = record {
  within : l.at ≤ length l.frames;
  ends : AreEnds l.at (depths_of l.frames) l.ends.items;
}

abbrev pub decreases-loop-at : goal.decreases-loop-at
decreases-loop-at l = l.at
