use Rattle.std.proofs.Common.{◌≡◌, ℕ, List, [], ◌∷◌, ◌++◌, get_or, take}
use Rattle.std.specs.Prelude.{map}
use Rattle.pprof_codec.specs.Frames.{function_frame, unknown_frame}
use Rattle.pprof_codec.specs.Checks.{faults_of_each, faults_of_function}
use Rattle.pprof_codec.proofs.functions.Functions.read.Given as goal

abbrev pub invariant-loop-number : goal.invariant-loop-number
invariant-loop-number l = record {
  known : l.ids ≡ take l.number (map (λ f. f.id) l.functions);
  framed : l.frames.items ≡ take l.number (map (function_frame l.names) l.functions);
  placed : (rest : List (List ℕ)) → map (λ place. get_or (l.names ++ unknown_frame ∷ rest) place []) l.places.items ≡ take l.number (map (function_frame l.names) l.functions);
  judged : faults_of_each (λ number function. faults_of_function l.names (take number (map (λ f. f.id) l.functions)) number function) (take l.number l.functions) ≡ [];
}
