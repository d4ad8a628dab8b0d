-- Sums beside their total, as they are kept.
use Rattle.std.specs.Prelude.{◌≡◌, ℕ, ◌<◌, List}
use Rattle.std.specs.List.{All}
use Rattle.std.specs.Map.{values_of}
use Rattle.profile_model.specs.Limits.{total_bound}
use Rattle.profile_model.specs.Sums.{Sample, total_of}

pub record AreStored (sums : List Sample) (total : ℕ) : Type 0 where
  pub summed : total ≡ total_of sums
  pub bounded : total < total_bound
  pub positive : All (λ value. 0 < value) (values_of sums)
