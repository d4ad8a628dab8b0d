-- The words of the command line.
use Rattle.std.specs.Prelude.{◌≡◌, ℕ, List, [], ◌∷◌, codes}

-- the one word `session`
abbrev pub IsSession : List (List ℕ) → Type 0
IsSession words = words ≡ codes "session" ∷ []
