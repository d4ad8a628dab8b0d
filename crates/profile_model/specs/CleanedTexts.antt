-- Texts without the marks that separate types and label sets.
use Rattle.std.specs.Prelude.{◌==◌, ◌||◌, ℕ, Bool, List, map, if◌then◌else◌}

-- `:`, `{`, `}` and `"`
abbrev pub is_mark : ℕ → Bool
is_mark b = (b == 58) || (b == 123) || (b == 125) || (b == 34)

-- `_` in the place of each mark
abbrev pub clean_byte : ℕ → ℕ
clean_byte b = if is_mark b then 95 else b

abbrev pub cleaned : List ℕ → List ℕ
cleaned text = map clean_byte text
