use Rattle.std.proofs.Common.{◌≡◌, [], take}
use Rattle.pprof_codec.specs.Checks.{faults_of_each, faults_of_sample}
use Rattle.pprof_codec.proofs.samples.first_sample_fault.Given as goal

abbrev pub invariant-loop-number : goal.invariant-loop-number
invariant-loop-number l = faults_of_each (faults_of_sample l.message) (take l.number l.message.samples) ≡ []
