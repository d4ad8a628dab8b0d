-- The five parts of a profile's type, as its text has them.
use Rattle.std.specs.Prelude.{◌==◌, ℕ, Bool, not, List, IsTrue}
use Rattle.std.specs.List.{slice_split, list_all}

abbrev pub is_colon : ℕ → Bool
is_colon b = b == 58

-- a part holds no colon
abbrev pub IsPart : List ℕ → Type 0
IsPart part = IsTrue (list_all (λ b. not (is_colon b)) part)

-- the parts of a text, cut at each colon
abbrev pub parts_of : List ℕ → List (List ℕ)
parts_of text = slice_split is_colon text
