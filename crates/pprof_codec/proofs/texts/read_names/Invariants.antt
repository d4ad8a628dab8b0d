use Rattle.std.proofs.Common.{◌≡◌, [], take}
use Rattle.std.specs.Prelude.{map}
use Rattle.pprof_codec.specs.Checks.{faults_of_each, faults_of_text}
use Rattle.pprof_codec.proofs.texts.read_names.Given as goal

abbrev pub invariant-loop-number : goal.invariant-loop-number
invariant-loop-number l = record {
  kept : l.names.items ≡ take l.number (map (λ text. text.now) l.texts);
  judged : faults_of_each faults_of_text (take l.number (map (λ text. text.now) l.texts)) ≡ [];
}
