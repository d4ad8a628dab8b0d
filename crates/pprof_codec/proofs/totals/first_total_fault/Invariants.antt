use Rattle.std.proofs.Common.{◌≡◌, [], take}
use Rattle.pprof_codec.specs.Checks.{faults_of_each}
use Rattle.pprof_codec.proofs.TotalLemmas.{faults_of_total}
use Rattle.pprof_codec.proofs.totals.first_total_fault.Given as goal

abbrev pub invariant-loop-number : goal.invariant-loop-number
invariant-loop-number l = faults_of_each (faults_of_total l.message) (take l.number l.message.sample_types) ≡ []
