use Rattle.std.proofs.Common.{◌≡◌, ◌+◌, ◌++◌, take, drop}
use Rattle.pprof_codec.specs.Tables.{run_added, sums_weight}
use Rattle.pprof_codec.proofs.sums.add_to_each.Given as goal

abbrev pub invariant-loop-number : goal.invariant-loop-number
invariant-loop-number l = record {
  added : l.sums ≡ take l.number (run_added l.message l.run l.stack l.fn.sums) ++ drop l.number l.fn.sums;
  taken : l.fn.room + sums_weight l.fn.sums ≡ l.room + sums_weight l.sums;
}
