-- Where subtrees end, in a list of depths in preorder.
use Rattle.std.specs.Prelude.{◌≡◌, ℕ, ◌<◌, ◌≤◌, List, length, get_or}

-- the first later place that doesn't stand below this one
pub record IsEnd (depths : List ℕ) (at end : ℕ) : Type 0 where
  pub later : at < end
  pub within : end ≤ length depths
  pub deeper : (n : ℕ) → at < n → n < end → get_or depths at 0 < get_or depths n 0
  pub stops : end < length depths → get_or depths end 0 ≤ get_or depths at 0

-- each place from this one on has its end
pub record AreEnds (from : ℕ) (depths ends : List ℕ) : Type 0 where
  pub many : length ends ≡ length depths
  pub each : (n : ℕ) → from ≤ n → n < length depths → IsEnd depths n (get_or ends n 0)
