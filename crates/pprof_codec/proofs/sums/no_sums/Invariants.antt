use Rattle.std.proofs.Common.{◌≡◌, [], take}
use Rattle.pprof_codec.specs.Tables.{sums_over}
use Rattle.pprof_codec.proofs.sums.no_sums.Given as goal

abbrev pub invariant-loop : goal.invariant-loop
invariant-loop l = l.sums.items ≡ take l.counter (sums_over l.message [])
