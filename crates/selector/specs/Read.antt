-- What reading a selector or a query answers.
use Rattle.std.specs.Prelude.{◌≡◌, ◌≢◌, ◌<◌, ◌≤◌, ℕ, Bool, List, ◌∷◌, ◌++◌, length, sum_by, Result, Ok, Err}
use Rattle.std.specs.List.{AllByRecursion}
use Rattle.profile_model.specs.Breaks.{BreaksAt}
use Rattle.profile_model.specs.Kinds.{parts_of}
use Rattle.profile_model.specs.ReadKinds.{parts_in}
use Rattle.selector.specs.Limits.{most_matchers, most_pattern_bytes}
use Rattle.selector.specs.Matching.{Matching}
use Rattle.selector.specs.Grammar.{IsSelectorText, IsQueryOf, kind_of}
use Rattle.selector.specs.Patterns.{IsBuilt, IsBadSyntax, IsTooLarge}
use Rattle.selector.specs.declared.operator.Operator.{Operator}
use Rattle.selector.specs.declared.operator.Operator.TheVariants.{Equal, NotEqual, Finds, FindsNot}
use Rattle.selector.specs.declared.fault.SelectorFault.{SelectorFault}
use Rattle.selector.specs.declared.fault.SelectorFault.TheVariants.{Kind, Syntax, TooMany, Pattern, PatternRefused}
use Rattle.selector.specs.declared.query.Query.{Query}

-- P holds of the matcher's pattern, where it has one
abbrev pub ForPattern : (List ℕ → Type 0) → Operator → List ℕ → Type 0
ForPattern P Equal value = Unit {0}
ForPattern P NotEqual value = Unit {0}
ForPattern P Finds value = P value
ForPattern P FindsNot value = P value

-- the matcher has a pattern, and P holds of it
abbrev pub OfPattern : (List ℕ → Type 0) → Operator → List ℕ → Type 0
OfPattern P Equal value = ⊥
OfPattern P NotEqual value = ⊥
OfPattern P Finds value = P value
OfPattern P FindsNot value = P value

-- how many bytes the matcher's pattern has, where it has one
abbrev pub pattern_length : Operator → List ℕ → ℕ
pattern_length Equal value = 0
pattern_length NotEqual value = 0
pattern_length Finds value = length value
pattern_length FindsNot value = length value

-- the bytes of all patterns together
abbrev pub pattern_bytes : List Matching → ℕ
pattern_bytes matchers = sum_by (λ (matcher : Matching). pattern_length matcher.operator matcher.value) matchers

-- the patterns have no more bytes than those of a request may have; others are want of memory
abbrev pub AreShort : List Matching → Type 0
AreShort matchers = pattern_bytes matchers ≤ most_pattern_bytes

-- P holds of every pattern
abbrev pub ForPatterns : (List ℕ → Type 0) → List Matching → Type 0
ForPatterns P matchers = AllByRecursion (λ (matcher : Matching). ForPattern P matcher.operator matcher.value) matchers

-- every pattern is built
abbrev pub AreBuilt : (List ℕ → Bool) → List Matching → Type 0
AreBuilt built matchers = ForPatterns (IsBuilt built) matchers

-- matcher i, from 0, is the first whose pattern isn't built, and P holds of that pattern
pub record IsFirstRefused (built : List ℕ → Bool) (matchers : List Matching) (P : List ℕ → Type 0) (i : ℕ) : Type 0 where
  pub before : List Matching
  pub matcher : Matching
  pub after : List Matching
  pub cut : matchers ≡ before ++ matcher ∷ after
  pub place : i ≡ length before
  pub earlier : AreBuilt built before
  pub refused : OfPattern P matcher.operator matcher.value

-- The fault of a text, where Form says which matchers a text stands for. The place of a broken text is the
-- length of its longest prefix that begins some text of the form.
abbrev pub IsFaultOf : (List ℕ → List Matching → Type 0) → (List ℕ → Bool) → List ℕ → SelectorFault → Type 0
IsFaultOf Form built text Kind = ⊥
IsFaultOf Form built text (Syntax at) = ((matchers : List Matching) → ¬ (Form text matchers)) × BreaksAt (λ t. (matchers : List Matching) × Form t matchers) text at
IsFaultOf Form built text TooMany = (matchers : List Matching) × Form text matchers × (most_matchers < length matchers)
IsFaultOf Form built text (Pattern i) = (matchers : List Matching) × Form text matchers × (length matchers ≤ most_matchers) × IsFirstRefused built matchers IsBadSyntax i × AreShort matchers
IsFaultOf Form built text (PatternRefused i) = (matchers : List Matching) × Form text matchers × (length matchers ≤ most_matchers) × IsFirstRefused built matchers (IsTooLarge built) i × AreShort matchers

-- the matchers that a text stands for: not too many, their patterns not too long together, every pattern built
pub record AreRead (Form : List ℕ → List Matching → Type 0) (built : List ℕ → Bool) (text : List ℕ) (matchers : List Matching) : Type 0 where
  pub form : Form text matchers
  pub few : length matchers ≤ most_matchers
  pub short : AreShort matchers
  pub each : AreBuilt built matchers

-- ---- where it is settled which patterns regex builds

abbrev pub IsReadSelectorBy : (List ℕ → Bool) → List ℕ → Result (List Matching) SelectorFault → Type 0
IsReadSelectorBy built text (Ok matchers) = AreRead IsSelectorText built text matchers
IsReadSelectorBy built text (Err fault) = IsFaultOf IsSelectorText built text fault

-- the kind is judged first: it is five parts
abbrev pub IsReadQueryBy : (List ℕ → Bool) → List ℕ → Result Query SelectorFault → Type 0
IsReadQueryBy built text (Ok query) = (parts_of (kind_of text) ≡ parts_in query.kind) × AreRead IsQueryOf built text query.selector
IsReadQueryBy built text (Err Kind) = length (parts_of (kind_of text)) ≢ 5
IsReadQueryBy built text (Err fault) = (length (parts_of (kind_of text)) ≡ 5) × IsFaultOf IsQueryOf built text fault

-- ---- where regex chooses

abbrev pub IsReadSelector : List ℕ → Result (List Matching) SelectorFault → Type 0
IsReadSelector text result = (built : List ℕ → Bool) × IsReadSelectorBy built text result

abbrev pub IsReadQuery : List ℕ → Result Query SelectorFault → Type 0
IsReadQuery text result = (built : List ℕ → Bool) × IsReadQueryBy built text result
