-- A matcher's pattern, in the words of the crate regex.
use Rattle.std.specs.Prelude.{◌≡◌, ◌⊎◌, ◌<◌, ℕ, List, ◌++◌, Bool, false, Option, Some, None, IfSome, IsTrue, IsFalse, is_some, chars, codes}
use Rattle.regex.specs.Patterns.{Re, find_str, default_config}
use Rattle.regex.specs.Failures.{IsPattern}
use Rattle.regex_syntax.specs.Grammar.{Names, read}
use Rattle.regex_syntax.specs.Brackets.{Nested}

-- the text `\A(?:P)\z` of a pattern P, which is found only where P matches the whole value
abbrev pub anchored : List ℕ → List ℕ
anchored pattern = codes "\\A(?:" ++ (pattern ++ codes ")\\z")

-- regex's grammar reads the text, within its limit on nesting
abbrev pub IsReadable : List ℕ → Type 0
IsReadable text = IsPattern default_config text

-- regex's grammar reads no pattern in the text, or one that nests deeper than its limit
abbrev pub IsUnreadable : List ℕ → Type 0
IsUnreadable text =
    (read default_config (chars text) ≡ None) ⊎ IfSome (read default_config (chars text)) (λ (re, _). default_config.nest_limit < re.depth)

-- whether regex's own definition finds in a value what its grammar read
abbrev pub finds_read : Option (Nested Re × Names) → List ℕ → Bool
finds_read None value = false
finds_read (Some found) value = is_some (find_str found.0.value value 0)

-- whether it finds `\A(?:P)\z` in the value
abbrev pub finds : List ℕ → List ℕ → Bool
finds pattern value = finds_read (read default_config (chars (anchored pattern))) value

-- a pattern whose syntax is right: it is read alone, and between its anchors
pub record IsWellFormed (pattern : List ℕ) : Type 0 where
  pub alone : IsReadable pattern
  pub whole : IsReadable (anchored pattern)

-- A pattern whose syntax is refused. One that is read alone may still be none between its anchors: `(?x)a#` is one.
abbrev pub IsBadSyntax : List ℕ → Type 0
IsBadSyntax pattern = IsUnreadable pattern ⊎ (IsReadable pattern × IsUnreadable (anchored pattern))

-- Which patterns of right syntax regex builds between their anchors, within the limit on the size of one, it leaves
-- open. So that is an argument, `built`, which says it of each pattern.

-- a pattern that regex builds
abbrev pub IsBuilt : (List ℕ → Bool) → List ℕ → Type 0
IsBuilt built pattern = IsWellFormed pattern × IsTrue (built pattern)

-- a pattern that is too large for regex
abbrev pub IsTooLarge : (List ℕ → Bool) → List ℕ → Type 0
IsTooLarge built pattern = IsWellFormed pattern × IsFalse (built pattern)
