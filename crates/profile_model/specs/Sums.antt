-- Values added up for each stack.
use Rattle.std.specs.Prelude.{◌==◌, ℕ, ◌+◌, ◌<◌, List, [], fold, sum_by, unwrap_or, if◌then◌else◌}
use Rattle.std.specs.List.{All}
use Rattle.std.specs.List.Sorted.{IsStrictlySortedBy}
use Rattle.std.specs.Map.{lookup, keys_of, values_of}
use Rattle.std.specs.BTreeMap.{is_at, insert_entry}
use Rattle.profile_model.specs.Limits.{total_bound}
use Rattle.profile_model.specs.Stacks.{stack_cmp}

-- a stack, root first, and its value
abbrev pub Sample : Type 0
Sample = List (List ℕ) × ℕ

-- the value of a stack, 0 where it isn't there
abbrev pub value_of : List Sample → List (List ℕ) → ℕ
value_of sums stack = unwrap_or (lookup (is_at (stack_cmp stack)) sums) 0

-- all values together
abbrev pub total_of : List Sample → ℕ
total_of sums = sum_by (λ value. value) (values_of sums)

-- sums with a value added to a stack's; a value of 0 adds no stack
abbrev pub with_added : List Sample → List (List ℕ) → ℕ → List Sample
with_added sums stack value =
    if value == 0 then sums else insert_entry stack_cmp sums stack (value_of sums stack + value)

-- what samples come to when each is added in turn
abbrev pub sums_of : List Sample → List Sample
sums_of samples = fold (λ sums sample. with_added sums sample.0 sample.1) [] samples

-- stacks ascend and are distinct, each value is at least 1, and all together are bounded
pub record AreSums (sums : List Sample) : Type 0 where
  pub ascending : IsStrictlySortedBy stack_cmp (keys_of sums)
  pub positive : All (λ value. 0 < value) (values_of sums)
  pub bounded : total_of sums < total_bound
