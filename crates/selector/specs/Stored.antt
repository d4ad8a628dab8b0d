-- What a stored pattern and a stored matcher stand for.
use Rattle.std.specs.Prelude.{◌≡◌, ◌+◌, ◌<◌, ◌≤◌, ℕ, List, is_some, slice_index}
use Rattle.regex.specs.Patterns.{default_config, find_str}
use Rattle.regex.specs.Strings.{regex_source, regex_config, regex_pattern, regex_size, IsReadFromSource}
use Rattle.regex.specs.declared.string.regex.Regex.{Regex}
use Rattle.selector.specs.Limits.{most_pattern_size}
use Rattle.selector.specs.Patterns.{finds, IsReadable, IsUnreadable, IsWellFormed, IsBadSyntax}
use Rattle.selector.specs.declared.pattern.PatternFault.{PatternFault}
use Rattle.selector.specs.declared.pattern.PatternFault.TheVariants.{Syntax, TooLarge}

-- the regex is what regex's grammar reads in the text, built within the limit
pub record IsBuiltFrom (text : List ℕ) (regex : Regex) : Type 0 where
  pub source : regex_source regex ≡ text
  pub config : regex_config regex ≡ default_config
  pub reads : IsReadFromSource regex
  pub small : regex_size regex ≤ most_pattern_size + 24

-- the regex is found in a value of bytes exactly where the pattern is, between its anchors
abbrev pub IsFoundAs : List ℕ → Regex → Type 0
IsFoundAs pattern regex =
    (value : List ℕ) → ((k : ℕ) → slice_index value k < 256) → is_some (find_str (regex_pattern regex) value 0) ≡ finds pattern value

-- what a refusal of a text says of it
abbrev pub IsRefusalOf : List ℕ → PatternFault → Type 0
IsRefusalOf text Syntax = IsUnreadable text
IsRefusalOf text TooLarge = IsReadable text

-- what a refusal of a pattern says of it
abbrev pub IsRefused : List ℕ → PatternFault → Type 0
IsRefused pattern Syntax = IsBadSyntax pattern
IsRefused pattern TooLarge = IsWellFormed pattern
