-- What holds of every selector and query.
use Rattle.std.specs.Prelude.{◌≡◌, ℕ, List}
use Rattle.selector.specs.Matching.{Matching}
use Rattle.selector.specs.Grammar.{IsSelectorText, IsQueryText}

-- a text is at most one list of matchers
abbrev pub IsOneSelector : List ℕ → Type 0
IsOneSelector text = (first second : List Matching) → IsSelectorText text first → IsSelectorText text second → first ≡ second

-- a text is at most one kind with one list of matchers
abbrev pub IsOneQuery : List ℕ → Type 0
IsOneQuery text =
    (kind other : List ℕ) (first second : List Matching) → IsQueryText text kind first → IsQueryText text other second → (kind ≡ other) × (first ≡ second)
