-- The sums of samples, stack by stack, and that no other list has these values.
use Rattle.std.proofs.Common.{◌≡◌, ℕ, zero, suc, ◌+◌, ◌<◌, List, [], ◌∷◌, Bool, true, false, cond, arith, Some, refl, sym, ap, ◌∙◌}
use Rattle.std.specs.Prelude.{◌==◌, unwrap_or, fold, if◌then◌else◌}
use Rattle.std.specs.List.{All, AllByRecursion}
use Rattle.std.specs.List.Sorted.{IsStrictlySortedBy}
use Rattle.std.specs.Map.{lookup, keys_of, values_of}
use Rattle.std.specs.BTreeMap.{is_at, insert_entry}
use Rattle.std.specs.Cmp.{tied_itself}
use Rattle.std.specs.Ordering.{is_eq, ordering_reverse}
use Rattle.std.specs.declared.cmp.Ordering.{Ordering}
use Rattle.std.specs.declared.cmp.Ordering.TheVariants.{Less, Equal, Greater}
use Rattle.std.specs.Cmp.Lexicographic.{pointwise_decides, bytes_decides}
use Rattle.std.proofs.lemmas.Bool.{true≢false, eqb-true}
use Rattle.std.proofs.lemmas.List.Elements.{recursion_from_All, All-from_recursion}
use Rattle.std.proofs.lemmas.List.Sums.{sum_by-cons}
use Rattle.std.proofs.lemmas.Map.Views.{All-values-insert_entry}
use Rattle.profile_model.proofs.EntryLemmas.{all_map, sorted-insert_entry, lookup-insert_entry, lookup-below}
use Rattle.profile_model.specs.Stacks.{stack_cmp}
use Rattle.profile_model.specs.StackOrder.{stack_eq, stacks_total, stacks_ties, stacks_equiv}
use Rattle.profile_model.specs.Sums.{Sample, value_of, with_added, sums_of}
use Rattle.profile_model.specs.SumLaw.{value_in, AreSumsOf}

-- ---- one sample added

pub same_stack : (xs ys : List (List ℕ)) → stack_cmp xs ys ≡ Equal → xs ≡ ys
same_stack xs ys tied = (pointwise_decides bytes_decides xs ys).0 (stacks_ties xs ys ∙ ap is_eq tied)

value_of-with_added : (sums : List Sample) (stack : List (List ℕ)) (value : ℕ) (q : List (List ℕ))
    → value_of (with_added sums stack value) q ≡ value_of sums q + (if stack_eq stack q then value else 0)
value_of-with_added sums stack value q = by (value == 0) refl
  where
    none : (own : Bool) → value ≡ 0 → value_of sums q ≡ value_of sums q + cond own value 0
    none true is = omega arith
    none false is = omega arith

    own : (r : Ordering) → stack_cmp q stack ≡ r
        → unwrap_or (cond (is_eq r) (Some (value_of sums stack + value)) (lookup (is_at (stack_cmp q)) sums)) 0 ≡ value_of sums q + cond (is_eq r) value 0
    own Less is = omega arith
    own Greater is = omega arith
    own Equal is = ap (λ s. value_of sums s + value) (sym (same_stack q stack is))

    turn : is_eq (stack_cmp q stack) ≡ stack_eq stack q
    turn = sym (stacks_ties q stack) ∙ stacks_equiv.symm q stack

    by : (nothing : Bool) → (value == 0) ≡ nothing
        → value_of (cond nothing sums (insert_entry stack_cmp sums stack (value_of sums stack + value))) q ≡ value_of sums q + cond (stack_eq stack q) value 0
    by true is = none (stack_eq stack q) (eqb-true value 0 is)
    by false is = ap (λ found. unwrap_or found 0) (lookup-insert_entry stacks_total sums stack (value_of sums stack + value) q)
        ∙ own (stack_cmp q stack) refl ∙ ap (λ b. value_of sums q + cond b value 0) turn

ascending-with_added : (sums : List Sample) (stack : List (List ℕ)) (value : ℕ) → IsStrictlySortedBy stack_cmp (keys_of sums)
    → IsStrictlySortedBy stack_cmp (keys_of (with_added sums stack value))
ascending-with_added sums stack value sorted = by (value == 0)
  where
    by : (nothing : Bool) → IsStrictlySortedBy stack_cmp (keys_of (cond nothing sums (insert_entry stack_cmp sums stack (value_of sums stack + value))))
    by true = sorted
    by false = sorted-insert_entry stacks_total sums stack (value_of sums stack + value) sorted

some_value : (value held : ℕ) → (value == 0) ≡ false → 0 < held + value
some_value zero held is = absurd (true≢false is)
some_value (suc value) held is = omega arith

positive-with_added : (sums : List Sample) (stack : List (List ℕ)) (value : ℕ) → All (λ v. 0 < v) (values_of sums)
    → All (λ v. 0 < v) (values_of (with_added sums stack value))
positive-with_added sums stack value positive = by (value == 0) refl
  where
    by : (nothing : Bool) → (value == 0) ≡ nothing → All (λ v. 0 < v) (values_of (cond nothing sums (insert_entry stack_cmp sums stack (value_of sums stack + value))))
    by true is = positive
    by false is = All-values-insert_entry stack_cmp stack (value_of sums stack + value) (λ v. 0 < v) sums positive (some_value value (value_of sums stack) is)

-- ---- all samples added

abbrev added : List Sample → Sample → List Sample
added sums sample = with_added sums sample.0 sample.1

exact-from : (sums samples : List Sample) (q : List (List ℕ)) → value_of (fold added sums samples) q ≡ value_of sums q + value_in samples q
exact-from sums [] q = omega arith
exact-from sums (sample ∷ samples) q =
    let rest = exact-from (added sums sample) samples q in
    let first = value_of-with_added sums sample.0 sample.1 q in
    let split = sum_by-cons (λ (one : Sample). if stack_eq one.0 q then one.1 else 0) sample samples in omega arith

ascending-from : (sums samples : List Sample) → IsStrictlySortedBy stack_cmp (keys_of sums) → IsStrictlySortedBy stack_cmp (keys_of (fold added sums samples))
ascending-from sums [] sorted = sorted
ascending-from sums (sample ∷ samples) sorted = ascending-from (added sums sample) samples (ascending-with_added sums sample.0 sample.1 sorted)

positive-from : (sums samples : List Sample) → All (λ v. 0 < v) (values_of sums) → All (λ v. 0 < v) (values_of (fold added sums samples))
positive-from sums [] positive = positive
positive-from sums (sample ∷ samples) positive = positive-from (added sums sample) samples (positive-with_added sums sample.0 sample.1 positive)

none_sorted : IsStrictlySortedBy stack_cmp []
unfolding IsStrictlySortedBy
none_sorted = tt

pub sums_of-are : (samples : List Sample) → AreSumsOf samples (sums_of samples)
sums_of-are samples = record {
  ascending = ascending-from [] samples none_sorted;
  positive = positive-from [] samples (All-from_recursion (λ v. 0 < v) [] tt);
  exact = λ q. let found = exact-from [] samples q in omega arith;
}

-- ---- no other list

abbrev Positive : List Sample → Type 0
Positive sums = AllByRecursion (λ v. 0 < v) (values_of sums)

value_of-below : (sums : List Sample) (q : List (List ℕ)) → AllByRecursion (λ y. stack_cmp q y ≡ Less) (keys_of sums) → value_of sums q ≡ 0
value_of-below sums q below = ap (λ found. unwrap_or found 0) (lookup-below stacks_total sums q below)

value_of-first : (x : Sample) (xs : List Sample) → value_of (x ∷ xs) x.0 ≡ x.1
value_of-first x xs = ap (λ r. unwrap_or (cond (is_eq r) (Some x.1) (lookup (is_at (stack_cmp x.0)) xs)) 0) (tied_itself stacks_total x.0)

-- a first stack below all others isn't among them
value_of-lower : (q : List (List ℕ)) (y : Sample) (ys : List Sample) → stack_cmp q y.0 ≡ Less → AllByRecursion (λ z. stack_cmp y.0 z ≡ Less) (keys_of ys)
    → value_of (y ∷ ys) q ≡ 0
value_of-lower q y ys below above =
    value_of-below (y ∷ ys) q (below, all_map (λ z more. stacks_total.trans q y.0 z below more) (keys_of ys) above)

-- where two lists begin with the same stack and have the same values, so have what follows
tails : (x y : Sample) (xs ys : List Sample) → AllByRecursion (λ z. stack_cmp x.0 z ≡ Less) (keys_of xs) → AllByRecursion (λ z. stack_cmp y.0 z ≡ Less) (keys_of ys)
    → x.0 ≡ y.0 → ((q : List (List ℕ)) → value_of (x ∷ xs) q ≡ value_of (y ∷ ys) q) → (q : List (List ℕ)) → value_of xs q ≡ value_of ys q
tails x y xs ys above_x above_y keys same q = by (stack_cmp q x.0) refl
  where
    skip : (o : Ordering) → is_eq o ≡ false → stack_cmp q x.0 ≡ o → value_of xs q ≡ value_of ys q
    skip o other is =
        sym (ap (λ b. unwrap_or (cond b (Some x.1) (lookup (is_at (stack_cmp q)) xs)) 0) (ap is_eq is ∙ other))
        ∙ same q
        ∙ ap (λ b. unwrap_or (cond b (Some y.1) (lookup (is_at (stack_cmp q)) ys)) 0) (ap (λ k. is_eq (stack_cmp q k)) (sym keys) ∙ ap is_eq is ∙ other)

    by : (o : Ordering) → stack_cmp q x.0 ≡ o → value_of xs q ≡ value_of ys q
    by Less is = skip Less refl is
    by Greater is = skip Greater refl is
    by Equal is = value_of-below xs q (all_map (λ z more. stacks_total.congr q x.0 z is ∙ more) (keys_of xs) above_x)
        ∙ sym (value_of-below ys q (all_map (λ z more. ap (λ k. stack_cmp k z) (same_stack q x.0 is ∙ keys) ∙ more) (keys_of ys) above_y))

same_sums : (xs ys : List Sample) → IsStrictlySortedBy stack_cmp (keys_of xs) → IsStrictlySortedBy stack_cmp (keys_of ys) → Positive xs → Positive ys
    → ((q : List (List ℕ)) → value_of xs q ≡ value_of ys q) → xs ≡ ys
unfolding IsStrictlySortedBy
same_sums [] [] s t p r same = refl
same_sums [] (y ∷ ys) s t p r same = let first = value_of-first y ys in let is = same y.0 in let some = r.0 in absurd (omega arith)
same_sums (x ∷ xs) [] s t p r same = let first = value_of-first x xs in let is = same x.0 in let some = p.0 in absurd (omega arith)
same_sums (x ∷ xs) (y ∷ ys) s t p r same = by (stack_cmp x.0 y.0) refl (same_sums xs ys s.1 t.1 p.1 r.1)
  where
    by : (o : Ordering) → stack_cmp x.0 y.0 ≡ o → (((q : List (List ℕ)) → value_of xs q ≡ value_of ys q) → xs ≡ ys) → x ∷ xs ≡ y ∷ ys
    by Less is rest = let first = value_of-first x xs in let here = same x.0 in let none = value_of-lower x.0 y ys is t.0 in let some = p.0 in absurd (omega arith)
    by Greater is rest = let first = value_of-first y ys in let here = same y.0 in let some = r.0 in
        let none = value_of-lower y.0 x xs (stacks_total.antisymm y.0 x.0 ∙ ap ordering_reverse is) s.0 in absurd (omega arith)
    by Equal is rest =
        let keys = same_stack x.0 y.0 is in
        let values : x.1 ≡ y.1 = sym (value_of-first x xs) ∙ same x.0 ∙ ap (value_of (y ∷ ys)) keys ∙ value_of-first y ys in
        let later = rest (tails x y xs ys s.0 t.0 keys same) in
        λ i. (keys i, values i) ∷ later i

pub sums_of-only : (samples sums : List Sample) → AreSumsOf samples sums → sums ≡ sums_of samples
sums_of-only samples sums are =
    let own = sums_of-are samples in
    same_sums sums (sums_of samples) are.ascending own.ascending (recursion_from_All (λ v. 0 < v) (values_of sums) are.positive)
    (recursion_from_All (λ v. 0 < v) (values_of (sums_of samples)) own.positive) (λ q. are.exact q ∙ sym (own.exact q))

-- the same values of each stack, the same sums: the order of the samples doesn't matter
pub sums_of-any_order : (samples others : List Sample) → ((stack : List (List ℕ)) → value_in samples stack ≡ value_in others stack)
    → sums_of samples ≡ sums_of others
sums_of-any_order samples others same =
    let own = sums_of-are samples in
    sums_of-only others (sums_of samples) (record { ascending = own.ascending; positive = own.positive; exact = λ q. own.exact q ∙ same q })
