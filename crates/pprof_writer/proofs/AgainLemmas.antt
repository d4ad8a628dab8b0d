-- Sums whose samples are added again.
use Rattle.std.proofs.Common.{◌≡◌, ◌==◌, ℕ, ◌+◌, ◌<◌, List, [], ◌∷◌, ◌++◌, false, cond, Some, None, arith, refl, sym, ap, ◌∙◌}
use Rattle.std.specs.Prelude.{fold, unwrap_or}
use Rattle.std.specs.List.{All, AllByRecursion}
use Rattle.std.specs.List.Sorted.{IsStrictlySortedBy}
use Rattle.std.specs.Map.{keys_of, values_of, lookup}
use Rattle.std.specs.BTreeMap.{insert_entry, is_at}
use Rattle.std.specs.Ordering.{ordering_reverse, match_ordering, is_eq}
use Rattle.std.specs.declared.cmp.Ordering.TheVariants.{Less, Greater}
use Rattle.std.proofs.lemmas.Bool.Decides.{nat_tests}
use Rattle.std.proofs.lemmas.List.{append_assoc, append-nil}
use Rattle.std.proofs.lemmas.List.Elements.{All-head, All-tail}
use Rattle.profile_model.specs.Stacks.{stack_cmp}
use Rattle.profile_model.specs.StackOrder.{stacks_total}
use Rattle.profile_model.specs.Sums.{Sample, value_of, with_added}

abbrev AreInOrder : List Sample → Type 0
AreInOrder sums = IsStrictlySortedBy stack_cmp (keys_of sums)

abbrev add_sample : List Sample → Sample → List Sample
add_sample sums sample = with_added sums sample.0 sample.1

-- ---- adding ascending stacks in turn gives them back

abbrev pub AreBelow : List Sample → List (List ℕ) → Type 0
AreBelow sums stack = AllByRecursion (λ y. stack_cmp y stack ≡ Less) (keys_of sums)

greater_from_below : (x y : List (List ℕ)) → stack_cmp y x ≡ Less → stack_cmp x y ≡ Greater
greater_from_below x y below = stacks_total.antisymm x y ∙ ap ordering_reverse below

lookup-below : (sums : List Sample) (stack : List (List ℕ)) → AreBelow sums stack → lookup (is_at (stack_cmp stack)) sums ≡ None
lookup-below [] stack below = refl
lookup-below (e ∷ es) stack below =
    ap (λ o. cond (is_eq o) (Some e.1) (lookup (is_at (stack_cmp stack)) es)) (greater_from_below stack e.0 below.0) ∙ lookup-below es stack below.1

insert-below : (sums : List Sample) (stack : List (List ℕ)) (value : ℕ) → AreBelow sums stack → insert_entry stack_cmp sums stack value ≡ sums ++ (stack, value) ∷ []
insert-below [] stack value below = refl
insert-below (e ∷ es) stack value below =
    ap (λ o. match_ordering o ((stack, value) ∷ e ∷ es) ((e.0, value) ∷ es) (e ∷ insert_entry stack_cmp es stack value)) (greater_from_below stack e.0 below.0)
    ∙ ap (λ rest. e ∷ rest) (insert-below es stack value below.1)

not_zero : (value : ℕ) → 0 < value → (value == 0) ≡ false
not_zero value some = grind (arith, nat_tests)

added-below : (sums : List Sample) (s : Sample) → AreBelow sums s.0 → 0 < s.1 → add_sample sums s ≡ sums ++ s ∷ []
added-below sums s below some =
    let none : value_of sums s.0 + s.1 ≡ s.1 = let held = ap (λ o. unwrap_or o 0) (lookup-below sums s.0 below) in omega arith in
    ap (λ b. cond b sums (insert_entry stack_cmp sums s.0 (value_of sums s.0 + s.1))) (not_zero s.1 some)
    ∙ ap (insert_entry stack_cmp sums s.0) none ∙ insert-below sums s.0 s.1 below

below_at : (k : List (List ℕ)) (before : List Sample) (s : Sample) (after : List Sample) → AllByRecursion (λ y. stack_cmp k y ≡ Less) (keys_of (before ++ s ∷ after))
    → stack_cmp k s.0 ≡ Less
below_at k [] s after h = h.0
below_at k (e ∷ es) s after h = below_at k es s after h.1

below-append : (before : List Sample) (s : Sample) (after : List Sample) → AreInOrder (before ++ s ∷ after) → AreBelow before s.0
unfolding IsStrictlySortedBy
below-append [] s after sorted = tt
below-append (e ∷ es) s after sorted = (below_at e.0 es s after sorted.0, below-append es s after sorted.1)

pub sums-again : (before rest : List Sample) → AreInOrder (before ++ rest) → All (λ v. 0 < v) (values_of rest) → fold add_sample before rest ≡ before ++ rest
sums-again before [] sorted some = sym (append-nil before)
sums-again before (s ∷ ss) sorted some =
    ap (λ b. fold add_sample b ss) (added-below before s (below-append before s ss sorted) (All-head (λ v. 0 < v) s.1 (values_of ss) some))
    ∙ sums-again (before ++ s ∷ []) ss (rw append_assoc sorted) (All-tail (λ v. 0 < v) s.1 (values_of ss) some) ∙ append_assoc before (s ∷ []) ss
