-- How far a text goes on as texts of a form do, and where it breaks off.
use Rattle.std.specs.Prelude.{ℕ, ◌<◌, ◌≤◌, List, ◌++◌, length, take}

-- some text of the form begins with these bytes
abbrev pub Begins : (List ℕ → Type 0) → List ℕ → Type 0
Begins Form front = (rest : List ℕ) × Form (front ++ rest)

-- The place is the length of the longest prefix of the text that begins some text of the form: the
-- whole text's length where all of it does.
pub record BreaksAt (Form : List ℕ → Type 0) (text : List ℕ) (at : ℕ) : Type 0 where
  pub within : at ≤ length text
  pub begins : Begins Form (take at text)
  pub longest : (more : ℕ) → at < more → more ≤ length text → ¬ (Begins Form (take more text))
