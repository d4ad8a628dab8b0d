use Rattle.std.proofs.Common.{◌-◌}
use Rattle.flamebearer.proofs.GrowLemmas.{IsAlong}
use Rattle.flamebearer.proofs.levels.push_below.Given as goal

abbrev pub invariant-loop-at : goal.invariant-loop-at
invariant-loop-at l = IsAlong l.ends l.values l.kept l.fn.spot l.fn.next.items l.next.items l.begin l.left l.at

abbrev pub decreases-loop-at : goal.decreases-loop-at
decreases-loop-at l = l.end - l.at
