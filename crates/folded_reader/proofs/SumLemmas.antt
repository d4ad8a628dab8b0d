-- Sums that are made by adding samples in turn.
use Rattle.std.proofs.Common.{◌≡◌, ◌==◌, ℕ, ◌+◌, List, [], ◌∷◌, ◌++◌, Bool, true, false, cond, refl, sym, ap, ◌∙◌, arith}
use Rattle.std.specs.Prelude.{fold}
use Rattle.std.specs.List.{AllByRecursion, sum_by}
use Rattle.std.specs.List.Sorted.{IsStrictlySortedBy}
use Rattle.std.specs.Map.{keys_of, values_of}
use Rattle.std.specs.BTreeMap.{insert_entry}
use Rattle.std.specs.Cmp.{IsTotalOrder}
use Rattle.std.specs.Ordering.{match_ordering, ordering_reverse}
use Rattle.std.specs.declared.cmp.Ordering.{Ordering}
use Rattle.std.specs.declared.cmp.Ordering.TheVariants.{Less, Equal, Greater}
use Rattle.std.proofs.lemmas.Bool.Decides.{nat_tests}
use Rattle.std.proofs.lemmas.List.{map-append}
use Rattle.std.proofs.lemmas.List.Elements.{All-from_recursion, recursion_from_All}
use Rattle.std.proofs.lemmas.List.Sums.{sum_by-append, sum_by-cons, fold_push}
use Rattle.std.proofs.lemmas.Map.Views.{All-keys-insert_entry}
use Rattle.profile_model.specs.Stacks.{stack_cmp}
use Rattle.profile_model.specs.StackOrder.{stacks_total}
use Rattle.profile_model.specs.Sums.{Sample, total_of, value_of, with_added, sums_of}
use Rattle.profile_model.proofs.SumLemmas.{total-insert}

-- the stacks ascend
abbrev pub AreInOrder : List Sample → Type 0
AreInOrder sums = IsStrictlySortedBy stack_cmp (keys_of sums)

module _ {K : Type 0} (cmp : K → K → Ordering) (total : IsTotalOrder cmp) where
  below_all : (k e : K) (ks : List K) → cmp k e ≡ Less → AllByRecursion (λ y. cmp e y ≡ Less) ks → AllByRecursion (λ y. cmp k y ≡ Less) ks
  below_all k e [] below all = tt
  below_all k e (y ∷ ks) below all = (total.trans k e y below all.0, below_all k e ks below all.1)

  above_all : {X : Type 0} (k : K) (v : X) (e : K) (es : List (K × X)) → cmp e k ≡ Less → AllByRecursion (λ y. cmp e y ≡ Less) (keys_of es)
      → AllByRecursion (λ y. cmp e y ≡ Less) (keys_of (insert_entry cmp es k v))
  above_all k v e es above all =
      recursion_from_All (λ y. cmp e y ≡ Less) (keys_of (insert_entry cmp es k v))
      (All-keys-insert_entry cmp k v (λ y. cmp e y ≡ Less) es (All-from_recursion (λ y. cmp e y ≡ Less) (keys_of es) all) above)

  placed : {X : Type 0} (k : K) (v : X) (e : K × X) (es : List (K × X)) (o : Ordering) → o ≡ cmp k e.0 → IsStrictlySortedBy cmp (keys_of (e ∷ es))
      → IsStrictlySortedBy cmp (keys_of (insert_entry cmp es k v))
      → IsStrictlySortedBy cmp (keys_of (match_ordering o ((k, v) ∷ e ∷ es) ((e.0, v) ∷ es) (e ∷ insert_entry cmp es k v)))
  unfolding IsStrictlySortedBy
  placed k v e es Less is sorted grown = ((sym is, below_all k e.0 (keys_of es) (sym is) sorted.0), sorted)
  placed k v e es Equal is sorted grown = sorted
  placed k v e es Greater is sorted grown = (above_all k v e.0 es (total.antisymm e.0 k ∙ ap ordering_reverse (sym is)) sorted.0, grown)

  sorted-insert : {X : Type 0} (es : List (K × X)) (k : K) (v : X) → IsStrictlySortedBy cmp (keys_of es) → IsStrictlySortedBy cmp (keys_of (insert_entry cmp es k v))
  unfolding IsStrictlySortedBy
  sorted-insert [] k v sorted = (tt, tt)
  sorted-insert (e ∷ es) k v sorted = placed k v e es (cmp k e.0) refl sorted (sorted-insert es k v sorted.1)

pub sorted-with_added : (sums : List Sample) (stack : List (List ℕ)) (value : ℕ) → AreInOrder sums → AreInOrder (with_added sums stack value)
sorted-with_added sums stack value sorted =
    elim (value == 0) as (λ b. AreInOrder (cond b sums (insert_entry stack_cmp sums stack (value_of sums stack + value)))) [
      | true ↦ sorted
      | false ↦ sorted-insert stack_cmp stacks_total sums stack (value_of sums stack + value) sorted
    ]

zero_from_test : (value : ℕ) → (value == 0) ≡ true → value ≡ 0
zero_from_test value is = grind (arith, nat_tests)

added : (b : Bool) (sums : List Sample) (stack : List (List ℕ)) (value : ℕ) → (b ≡ true → value ≡ 0) → AreInOrder sums
    → total_of (cond b sums (insert_entry stack_cmp sums stack (value_of sums stack + value))) ≡ total_of sums + value
added true sums stack value none sorted = let zero_is = none refl in omega arith
added false sums stack value none sorted = total-insert sums stack value sorted

-- all values together grow by just the value
pub total-with_added : (sums : List Sample) (stack : List (List ℕ)) (value : ℕ) → AreInOrder sums → total_of (with_added sums stack value) ≡ total_of sums + value
total-with_added sums stack value sorted = added (value == 0) sums stack value (zero_from_test value) sorted

abbrev pub add_sample : List Sample → Sample → List Sample
add_sample sums sample = with_added sums sample.0 sample.1

pub total-cons : (sample : Sample) (samples : List Sample) → total_of (sample ∷ samples) ≡ sample.1 + total_of samples
total-cons sample samples = sum_by-cons (λ v. v) sample.1 (values_of samples)

total-fold : (samples sums : List Sample) → AreInOrder sums → total_of (fold add_sample sums samples) ≡ total_of sums + total_of samples
total-fold [] sums sorted = omega arith
total-fold (s ∷ ss) sums sorted =
    let rest = total-fold ss (add_sample sums s) (sorted-with_added sums s.0 s.1 sorted) in
    let one = total-with_added sums s.0 s.1 sorted in
    let all = total-cons s ss in omega arith

-- what the samples come to is all their values together
pub total-sums_of : (samples : List Sample) → total_of (sums_of samples) ≡ total_of samples
unfolding IsStrictlySortedBy
total-sums_of samples = let all = total-fold samples [] tt in omega arith

pub sums_of-push : (samples : List Sample) (sample : Sample) → sums_of (samples ++ sample ∷ []) ≡ with_added (sums_of samples) sample.0 sample.1
sums_of-push samples sample = fold_push add_sample [] samples sample

pub total-append : (xs ys : List Sample) → total_of (xs ++ ys) ≡ total_of xs + total_of ys
total-append xs ys =
    ap (λ vs. sum_by (λ v. v) vs) (map-append (λ s. s.1) xs ys) ∙ sum_by-append (λ v. v) (values_of xs) (values_of ys)

pub total-push : (samples : List Sample) (sample : Sample) → total_of (samples ++ sample ∷ []) ≡ total_of samples + sample.1
total-push samples sample = let parts = total-append samples (sample ∷ []) in let one = total-cons sample [] in omega arith
