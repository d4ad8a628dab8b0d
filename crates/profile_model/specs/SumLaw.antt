-- What the sums of samples are, whatever the order in which the samples are added.
use Rattle.std.specs.Prelude.{◌≡◌, ℕ, ◌<◌, List, sum_by, if◌then◌else◌}
use Rattle.std.specs.List.{All}
use Rattle.std.specs.List.Sorted.{IsStrictlySortedBy}
use Rattle.std.specs.Map.{keys_of, values_of}
use Rattle.profile_model.specs.Stacks.{stack_cmp}
use Rattle.profile_model.specs.StackOrder.{stack_eq}
use Rattle.profile_model.specs.Sums.{Sample, value_of}

-- the values of all samples of a stack, together
abbrev pub value_in : List Sample → List (List ℕ) → ℕ
value_in samples stack = sum_by (λ sample. if stack_eq sample.0 stack then sample.1 else 0) samples

-- stacks ascend and are distinct, each value is at least 1, and each stack has its value in the samples
pub record AreSumsOf (samples sums : List Sample) : Type 0 where
  pub ascending : IsStrictlySortedBy stack_cmp (keys_of sums)
  pub positive : All (λ value. 0 < value) (values_of sums)
  pub exact : (stack : List (List ℕ)) → value_of sums stack ≡ value_in samples stack
