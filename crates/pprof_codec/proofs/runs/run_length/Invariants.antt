use Rattle.std.proofs.Common.{◌≡◌, ◌-◌, ◌<◌, ◌≤◌, length, get_or, take}
use Rattle.std.specs.List.{All}
use Rattle.pprof_message.specs.Pprof.{Pprof}
use Rattle.pprof_codec.specs.Tables.{AreAlike, stack_at}
use Rattle.pprof_codec.proofs.runs.run_length.Given as goal

abbrev pub invariant-loop-count : goal.invariant-loop-count
invariant-loop-count l = record {
  some : 0 < l.count;
  within : l.count ≤ length l.order;
  same : (pprof : Pprof) → AreAlike pprof l.stacks → All (λ at. at < length pprof.samples) l.order
      → All (λ at. stack_at pprof at ≡ stack_at pprof (get_or l.order 0 0)) (take l.count l.order);
}

abbrev pub decreases-loop-count : goal.decreases-loop-count
decreases-loop-count l = length l.order - l.count
