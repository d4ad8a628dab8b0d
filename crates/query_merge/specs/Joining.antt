-- Two ascending lists of samples, walked side by side.
use Rattle.std.specs.Prelude.{◌≡◌, ℕ, ◌+◌, List, ◌∷◌, ◌⊎◌}
use Rattle.std.specs.declared.cmp.Ordering.TheVariants.{Less}
use Rattle.profile_model.specs.Stacks.{stack_cmp}
use Rattle.profile_model.specs.Sums.{Sample}

-- the stack is below the first of the list, if it has one
abbrev pub IsBelowFirst : List (List ℕ) → List Sample → Type 0
IsBelowFirst stack samples = (other : Sample) (rest : List Sample) → samples ≡ other ∷ rest → stack_cmp stack other.0 ≡ Less

-- the sample goes from the head of one list, and the other begins above it
pub record Goes (taken kept : List Sample) (sample : Sample) (taken_rest kept_rest : List Sample) : Type 0 where
  pub head : taken ≡ sample ∷ taken_rest
  pub same : kept_rest ≡ kept
  pub below : IsBelowFirst sample.0 kept

-- both lists begin with the stack, and its values go together
pub record GoTogether (first second : List Sample) (sample : Sample) (first_rest second_rest : List Sample) : Type 0 where
  pub value : ℕ
  pub other : ℕ
  pub head : first ≡ (sample.0, value) ∷ first_rest
  pub other_head : second ≡ (sample.0, other) ∷ second_rest
  pub sum : sample.1 ≡ value + other

-- the lowest sample of two lists and what is left of each behind it
abbrev pub IsNext : List Sample → List Sample → Sample → List Sample → List Sample → Type 0
IsNext first second sample first_rest second_rest =
    Goes first second sample first_rest second_rest ⊎ Goes second first sample second_rest first_rest
    ⊎ GoTogether first second sample first_rest second_rest
