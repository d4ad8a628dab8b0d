-- What may stand at each place inside a selector, and how a rest of a text breaks off it.
use Rattle.std.specs.Prelude.{◌≡◌, ◌==◌, ◌⊎◌, ℕ, List, [], ◌∷◌, ◌++◌, length, IsFalse}
use Rattle.std.specs.String.{string_bytes}
use Rattle.profile_model.specs.Breaks.{Begins}
use Rattle.selector.specs.Matching.{Matching}
use Rattle.selector.specs.Grammar.{IsSpace, IsNameText, AreWritten, IsMore, IsInside, IsSelectorText, IsQueryOf, is_space, operator_text}
use Rattle.selector.specs.Runs.{begins_with}
use Rattle.selector.specs.declared.operator.Operator.{Operator}
use Rattle.selector.specs.declared.operator.Operator.TheVariants.{Equal}
use Rattle.selector.specs.declared.written.Written.{Written}
use Rattle.selector.specs.declared.written.ReadFault.{ReadFault}
use Rattle.selector.specs.declared.written.ReadFault.TheVariants.{BreaksOff}

abbrev pub matching_of : Written → Matching
matching_of written = record { name = written.name.now; operator = written.operator; value = string_bytes written.value }

-- ---- what may stand

abbrev pub AtInside : List ℕ → Type 0
AtInside text = (matchers : List Matching) × IsInside text matchers

abbrev pub AtMore : List ℕ → Type 0
AtMore text = (matchers : List Matching) × IsMore text matchers

-- white space, and then the form
abbrev pub Spaced : (List ℕ → Type 0) → List ℕ → Type 0
Spaced Form text = (space : List ℕ) × (rest : List ℕ) × (text ≡ space ++ rest) × IsSpace space × Form rest

-- the rest of a string's inside, its quote, and what follows the matcher
abbrev pub AtWritten : List ℕ → Type 0
AtWritten text = (inside : List ℕ) × (value : List ℕ) × (rest : List ℕ) × (text ≡ inside ++ 34 ∷ rest) × AreWritten inside value × AtMore rest

-- a matcher's string, and what follows the matcher
abbrev pub AtString : List ℕ → Type 0
AtString text = (inside : List ℕ) × (text ≡ 34 ∷ inside) × AtWritten inside

abbrev pub AtOperator : List ℕ → Type 0
AtOperator text = (operator : Operator) × (rest : List ℕ) × (text ≡ operator_text operator ++ rest) × Spaced AtString rest

-- after the `!` of an operator
abbrev pub AtNegated : List ℕ → Type 0
AtNegated text = AtOperator (33 ∷ text)

-- an operator was read whole: `=` isn't the front of `=~`
abbrev pub EndsOperator : Operator → List ℕ → Type 0
EndsOperator Equal rest = IsFalse (begins_with (λ b. b == 126) rest)
EndsOperator operator rest = Unit {0}

abbrev pub AtName : List ℕ → Type 0
AtName text = (name : List ℕ) × (rest : List ℕ) × (text ≡ name ++ rest) × IsNameText name × Spaced AtOperator rest

-- What follows a matcher, up to the next one or the closing brace, which stays: a comma or none.
pub record Separates (text rest : List ℕ) : Type 0 where
  pub space : List ℕ
  pub blank : IsSpace space
  pub cases :
      ((after : List ℕ) × IsSpace after × (text ≡ space ++ 44 ∷ (after ++ rest)))
      ⊎ ((end : List ℕ) × (rest ≡ 125 ∷ end) × (text ≡ space ++ rest))
  pub settled : IsFalse (begins_with is_space rest)

-- ---- where it breaks off

-- so many bytes are left of the text from the first on with which no text of the form goes on
pub record IsBrokenOff (Form : List ℕ → Type 0) (text : List ℕ) (left : ℕ) : Type 0 where
  pub read : List ℕ
  pub stuck : List ℕ
  pub split : text ≡ read ++ stuck
  pub count : length stuck ≡ left
  pub begins : Begins Form read
  pub stops : (b : ℕ) (more : List ℕ) → stuck ≡ b ∷ more → ¬ (Begins Form (read ++ b ∷ []))
  pub outside : ¬ (Form text)

abbrev pub IsReadFault : (List ℕ → Type 0) → List ℕ → ReadFault → Type 0
IsReadFault Form text (BreaksOff left) = IsBrokenOff Form text left

-- ---- whole selectors

abbrev pub AtSelector : List ℕ → Type 0
AtSelector text = (matchers : List Matching) × IsSelectorText text matchers

abbrev pub AtQuery : List ℕ → Type 0
AtQuery text = (matchers : List Matching) × IsQueryOf text matchers
