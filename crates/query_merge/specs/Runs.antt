-- Sums that are kept as several lists.
use Rattle.std.specs.Prelude.{◌≡◌, ℕ, ◌+◌, ◌<◌, ◌≤◌, List, flat_map, length, take}
use Rattle.std.specs.List.{All}
use Rattle.std.specs.declared.alloc.Global.{Global}
use Rattle.std.specs.declared.vec.Vec.{Vec}
use Rattle.profile_model.specs.Limits.{total_bound}
use Rattle.profile_model.specs.SumLaw.{value_in}
use Rattle.profile_model.specs.Sums.{AreSums, Sample, total_of}

-- the samples of all lists, one list behind another
abbrev pub all_samples : List (Vec Sample Global) → List Sample
all_samples runs = flat_map (λ run. run.items) runs

-- each list is ascending sums, and all values together are bounded
pub record AreRuns (runs : List (Vec Sample Global)) : Type 0 where
  pub each : All (λ run. AreSums run.items) runs
  pub bounded : total_of (all_samples runs) < total_bound

-- the last lists were joined with more: so many are left before it, and each stack has the values that it had in all
pub record AreJoined (runs : List (Vec Sample Global)) (more : List Sample) (left : ℕ) (run : List Sample) : Type 0 where
  pub within : left ≤ length runs
  pub sums : AreSums run
  pub values : (stack : List (List ℕ)) → value_in (all_samples (take left runs)) stack + value_in run stack ≡ value_in (all_samples runs) stack + value_in more stack
  pub total : total_of (all_samples (take left runs)) + total_of run ≡ total_of (all_samples runs) + total_of more
