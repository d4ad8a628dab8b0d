use Rattle.std.proofs.Common.{◌-◌, length}
use Rattle.flamebearer.specs.Branches.{depths_of}
use Rattle.flamebearer.proofs.EndLemmas.{AreDeeper}
use Rattle.flamebearer.proofs.branches.end_of.Given as goal

abbrev pub invariant-loop-end : goal.invariant-loop-end
invariant-loop-end l = AreDeeper (depths_of l.frames) l.at l.end

abbrev pub decreases-loop-end : goal.decreases-loop-end
decreases-loop-end l = length l.frames - l.end
