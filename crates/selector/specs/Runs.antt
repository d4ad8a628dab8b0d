-- Runs of bytes of one class.
use Rattle.std.specs.Prelude.{◌≡◌, ℕ, Bool, false, List, [], ◌∷◌, ◌++◌, IsTrue, IsFalse}
use Rattle.std.specs.List.{list_all}
use Rattle.selector.specs.Grammar.{is_space, is_name_byte, is_plain}
use Rattle.selector.specs.declared.tokens.Class.{Class}
use Rattle.selector.specs.declared.tokens.Class.TheVariants.{Space, Name, Plain}

abbrev pub is_in : Class → ℕ → Bool
is_in Space b = is_space b
is_in Name b = is_name_byte b
is_in Plain b = is_plain b

-- whether the text begins with a byte that passes
abbrev pub begins_with : (ℕ → Bool) → List ℕ → Bool
begins_with test [] = false
begins_with test (b ∷ rest) = test b

-- the text is the run of bytes that pass, and then the rest
pub record IsRun (test : ℕ → Bool) (text run rest : List ℕ) : Type 0 where
  pub joined : text ≡ run ++ rest
  pub pass : IsTrue (list_all test run)
  pub ends : IsFalse (begins_with test rest)
