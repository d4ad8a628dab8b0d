-- How far a reader is on its connection, as contracts see it.
use Rattle.std.specs.Prelude.{ℕ, Bool, List}

-- the bytes taken that belong to no request yet, whether it ended, and how many requests it gave (it stops counting at the most that a connection may have)
pub record Progress : Type 0 where
  pub held : List ℕ
  pub ended : Bool
  pub given : ℕ
