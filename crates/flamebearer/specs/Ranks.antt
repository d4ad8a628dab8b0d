-- Places by their weights, the greatest first.
use Rattle.std.specs.Prelude.{◌≡◌, ℕ, ◌^◌, ◌<◌, true, List, length, map, get_or, sum_by}
use Rattle.std.specs.List.{All, range_with_len}
use Rattle.std.specs.List.Sorted.{IsPermutation}
use Rattle.flamebearer.specs.declared.branches.Value.{Value}
use Rattle.flamebearer.specs.Pictures.{comes_before}

-- the total at a place
abbrev pub total_in : List Value → ℕ → ℕ
total_in values at = get_or (map (λ value. value.total) values) at 0

-- what all sides have there together
abbrev pub weight_in : List (List Value) → ℕ → ℕ
weight_in sides at = sum_by (λ values. total_in values at) sides

-- so many values, whose totals are below 2^63
pub record AreWeights (count : ℕ) (values : List Value) : Type 0 where
  pub many : length values ≡ count
  pub bounded : All (λ value. value.total < 2 ^ 63) values

-- so many places, each before those after it
pub record AreRanked (weight : ℕ → ℕ) (count : ℕ) (places : List ℕ) : Type 0 where
  pub all : IsPermutation (range_with_len 0 count) places
  pub before : (i j : ℕ) → i < j → j < length places → comes_before weight (get_or places i 0) (get_or places j 0) ≡ true
