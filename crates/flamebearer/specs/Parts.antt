-- Where stacks part.
use Rattle.std.specs.Prelude.{◌≡◌, ◌≢◌, ℕ, ◌<◌, ◌≤◌, List, [], length, take, get_or}

-- two stacks part at c: so many frames they share, and no more
pub record PartAt (xs ys : List (List ℕ)) (c : ℕ) : Type 0 where
  pub in_first : c ≤ length xs
  pub in_second : c ≤ length ys
  pub shared : take c xs ≡ take c ys
  pub apart : c < length xs → c < length ys → get_or xs c [] ≢ get_or ys c []
