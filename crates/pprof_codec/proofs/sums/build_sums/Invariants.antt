use Rattle.std.proofs.Common.{◌≡◌, ◌+◌, ◌-◌, ◌≤◌, length, take}
use Rattle.pprof_codec.specs.Tables.{sums_over, sums_weight}
use Rattle.pprof_codec.proofs.sums.build_sums.Given as goal

abbrev pub invariant-loop-from : goal.invariant-loop-from
invariant-loop-from l = record {
  within : l.from ≤ length l.order.items;
  summed : l.sums.items ≡ sums_over l.judged.message (take l.from l.order.items);
  taken : l.fn.room ≡ l.room + sums_weight l.sums.items;
}

abbrev pub decreases-loop-from : goal.decreases-loop-from
decreases-loop-from l = length l.order.items - l.from
