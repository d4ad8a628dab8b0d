use Rattle.std.proofs.Common.{◌≡◌, take}
use Rattle.pprof_codec.specs.Tables.{value_over}
use Rattle.pprof_codec.proofs.sums.value_of_run.Given as goal

abbrev pub invariant-loop-at : goal.invariant-loop-at
invariant-loop-at l = l.value ≡ value_over l.message l.number (take l.at-index l.run)
