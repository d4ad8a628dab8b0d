-- What adding a value does to the sums.
use Rattle.std.proofs.Common.{◌≡◌, ◌∙◌, ℕ, ◌+◌, ◌<◌, ◌≤◌, List, ap, arith, Some, None, Option}
use Rattle.std.specs.Prelude.{unwrap_or, option_map, refl}
use Rattle.std.specs.List.Sorted.{IsStrictlySortedBy}
use Rattle.std.specs.Map.{lookup, keys_of}
use Rattle.std.specs.BTreeMap.{is_at, insert_entry}
use Rattle.std.proofs.lemmas.Map.Views.{All-values-insert_entry}
use Rattle.std.proofs.lemmas.Map.Entries.{sum_by-insert_entry, sum_by-remove_entry}
use Rattle.profile_model.specs.Limits.{total_bound}
use Rattle.profile_model.specs.Stacks.{stack_cmp}
use Rattle.profile_model.specs.StackOrder.{stacks_total}
use Rattle.profile_model.specs.StoredSums.{AreStored}
use Rattle.profile_model.specs.Sums.{Sample, value_of, total_of}

id_of : (found : Option ℕ) → unwrap_or (option_map (λ (v : ℕ). v) found) 0 ≡ unwrap_or found 0
id_of None = refl
id_of (Some v) = refl

pub value-le-total : (sums : List Sample) (stack : List (List ℕ)) → value_of sums stack ≤ total_of sums
value-le-total sums stack =
    let rest = sum_by-remove_entry (λ v. v) (is_at (stack_cmp stack)) sums in
    let same = id_of (lookup (is_at (stack_cmp stack)) sums) in omega arith

-- the total grows by just the value
pub total-insert : (sums : List Sample) (stack : List (List ℕ)) (value : ℕ) → IsStrictlySortedBy stack_cmp (keys_of sums)
    → total_of (insert_entry stack_cmp sums stack (value_of sums stack + value)) ≡ total_of sums + value
total-insert sums stack value sorted =
    let grown = sum_by-insert_entry (λ v. v) stacks_total sums stack (value_of sums stack + value) sorted in
    let same = id_of (lookup (is_at (stack_cmp stack)) sums) in omega arith

-- the same of what sums become that hold the stack's new value
pub total-inserted : (before now : List Sample) (stack : List (List ℕ)) (held value : ℕ) → before ≡ now → held ≡ value_of before stack
    → IsStrictlySortedBy stack_cmp (keys_of before) → (after : List Sample) → after ≡ insert_entry stack_cmp before stack (held + value)
    → total_of after ≡ total_of now + value
total-inserted before now stack held value view is sorted after made = rw (made, is, ← view) (total-insert before stack value sorted)

-- sums as they are kept, with a value added to a stack's
pub stored-inserted : (before after : List Sample) (stack : List (List ℕ)) (held value total : ℕ) → held ≡ value_of before stack
    → IsStrictlySortedBy stack_cmp (keys_of before) → after ≡ insert_entry stack_cmp before stack (held + value)
    → AreStored before total → 0 < value → total + value < total_bound → AreStored after (total + value)
stored-inserted before after stack held value total is sorted made stored some fits =
    let grown = total-inserted before before stack held value refl is sorted after made in
    let was = stored.summed in
    record {
      summed = omega arith;
      bounded = fits;
      positive = rw made (All-values-insert_entry stack_cmp stack (held + value) (λ v. 0 < v) before stored.positive (omega arith));
    }

-- what a look-up found, or 0
pub value-looked_up : (sums : List Sample) (stack : List (List ℕ)) (found : Option ℕ) (held : ℕ) → found ≡ lookup (is_at (stack_cmp stack)) sums
    → held ≡ unwrap_or found 0 → held ≡ value_of sums stack
value-looked_up sums stack found held at is = is ∙ ap (λ (found : Option ℕ). unwrap_or found 0) at
