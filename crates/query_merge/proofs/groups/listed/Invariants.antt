use Rattle.std.proofs.Common.{◌≡◌, ◌++◌}
use Rattle.query_merge.proofs.groups.listed.Given as goal

abbrev pub invariant-loop-point : goal.invariant-loop-point
invariant-loop-point l = l.listed.items ++ l.point-iterator ≡ l.points.entries
