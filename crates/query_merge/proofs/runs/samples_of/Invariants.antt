use Rattle.std.proofs.Common.{◌≡◌, ◌++◌}
use Rattle.query_merge.proofs.runs.samples_of.Given as goal

-- what was taken and what is left are all
abbrev pub invariant-loop-stack : goal.invariant-loop-stack
invariant-loop-stack l = l.samples.items ++ l.stack-iterator ≡ l.fn.sums
