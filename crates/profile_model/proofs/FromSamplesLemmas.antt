-- Sums that are made of samples in order.
use Rattle.std.proofs.Common.{◌≡◌, ◌∙◌, ℕ, List, [], ◌∷◌, false, cond, Some, None, Option, refl, sym, ap, is_some}
use Rattle.std.specs.Prelude.{unwrap_or}
use Rattle.std.specs.List.{AllByRecursion}
use Rattle.std.specs.List.Sorted.{IsStrictlySortedBy}
use Rattle.std.specs.Map.{lookup, keys_of}
use Rattle.std.specs.Ordering.{is_eq, eq_by_cmp, ordering_reverse}
use Rattle.std.specs.declared.cmp.Ordering.{Ordering}
use Rattle.std.specs.declared.cmp.Ordering.TheVariants.{Less, Equal, Greater}
use Rattle.std.specs.Cmp.{tied_itself}
use Rattle.std.specs.BTreeMap.{BTreeMap, IsFromIterResult, is_at}
use Rattle.std.proofs.lemmas.Bool.{true≢false}
use Rattle.std.proofs.lemmas.Cmp.{eq_by_cmp_equiv}
use Rattle.std.proofs.lemmas.Map.Made.{update_all_none}
use Rattle.std.proofs.lemmas.Map.Keys.{IsDistinct-from_sorted}
use Rattle.profile_model.proofs.EntryLemmas.{all_map, lookup-below}
use Rattle.profile_model.proofs.SumLawLemmas.{same_stack}
use Rattle.profile_model.specs.Stacks.{stack_cmp}
use Rattle.profile_model.specs.StackOrder.{stacks_total}
use Rattle.profile_model.specs.Sums.{Sample}

abbrev find : List Sample → List (List ℕ) → Option ℕ
find sums stack = lookup (is_at (stack_cmp stack)) sums

find-first : (x : Sample) (xs : List Sample) → find (x ∷ xs) x.0 ≡ Some x.1
find-first x xs = ap (λ r. cond (is_eq r) (Some x.1) (find xs x.0)) (tied_itself stacks_total x.0)

-- a stack below the first isn't there
find-lower : (stack : List (List ℕ)) (y : Sample) (ys : List Sample) → stack_cmp stack y.0 ≡ Less → AllByRecursion (λ z. stack_cmp y.0 z ≡ Less) (keys_of ys)
    → find (y ∷ ys) stack ≡ None
find-lower stack y ys below above =
    lookup-below stacks_total (y ∷ ys) stack (below, all_map (λ z more. stacks_total.trans stack y.0 z below more) (keys_of ys) above)

tails : (x y : Sample) (xs ys : List Sample) → AllByRecursion (λ z. stack_cmp x.0 z ≡ Less) (keys_of xs) → AllByRecursion (λ z. stack_cmp y.0 z ≡ Less) (keys_of ys)
    → x.0 ≡ y.0 → ((q : List (List ℕ)) → find (x ∷ xs) q ≡ find (y ∷ ys) q) → (q : List (List ℕ)) → find xs q ≡ find ys q
tails x y xs ys above_x above_y keys same q = by (stack_cmp q x.0) refl
  where
    skip : (o : Ordering) → is_eq o ≡ false → stack_cmp q x.0 ≡ o → find xs q ≡ find ys q
    skip o other is =
        sym (ap (λ b. cond b (Some x.1) (find xs q)) (ap is_eq is ∙ other))
        ∙ same q
        ∙ ap (λ b. cond b (Some y.1) (find ys q)) (ap (λ k. is_eq (stack_cmp q k)) (sym keys) ∙ ap is_eq is ∙ other)

    by : (o : Ordering) → stack_cmp q x.0 ≡ o → find xs q ≡ find ys q
    by Less is = skip Less refl is
    by Greater is = skip Greater refl is
    by Equal is = lookup-below stacks_total xs q (all_map (λ z more. stacks_total.congr q x.0 z is ∙ more) (keys_of xs) above_x)
        ∙ sym (lookup-below stacks_total ys q (all_map (λ z more. ap (λ k. stack_cmp k z) (same_stack q x.0 is ∙ keys) ∙ more) (keys_of ys) above_y))

-- samples in order that find the same are the same
same_samples : (xs ys : List Sample) → IsStrictlySortedBy stack_cmp (keys_of xs) → IsStrictlySortedBy stack_cmp (keys_of ys)
    → ((q : List (List ℕ)) → find xs q ≡ find ys q) → xs ≡ ys
unfolding IsStrictlySortedBy
same_samples [] [] s t same = refl
same_samples [] (y ∷ ys) s t same = absurd (true≢false (sym (ap is_some (same y.0 ∙ find-first y ys))))
same_samples (x ∷ xs) [] s t same = absurd (true≢false (sym (ap is_some (sym (same x.0) ∙ find-first x xs))))
same_samples (x ∷ xs) (y ∷ ys) s t same = by (stack_cmp x.0 y.0) refl (same_samples xs ys s.1 t.1)
  where
    by : (o : Ordering) → stack_cmp x.0 y.0 ≡ o → (((q : List (List ℕ)) → find xs q ≡ find ys q) → xs ≡ ys) → x ∷ xs ≡ y ∷ ys
    by Less is rest = absurd (true≢false (ap is_some (sym (find-first x xs) ∙ same x.0 ∙ find-lower x.0 y ys is t.0)))
    by Greater is rest = absurd (true≢false (ap is_some
        (sym (find-first y ys) ∙ sym (same y.0) ∙ find-lower y.0 x xs (stacks_total.antisymm y.0 x.0 ∙ ap ordering_reverse is) s.0)))
    by Equal is rest =
        let keys = same_stack x.0 y.0 is in
        let values : x.1 ≡ y.1 = ap (λ found. unwrap_or found 0) (sym (find-first x xs) ∙ same x.0 ∙ ap (find (y ∷ ys)) keys ∙ find-first y ys) in
        let later = rest (tails x y xs ys s.0 t.0 keys same) in
        λ i. (keys i, values i) ∷ later i

-- ordered samples, collected, are the entries of what they make
pub entries-of_samples : (samples : List Sample) → IsStrictlySortedBy stack_cmp (keys_of samples) → (made : BTreeMap (List (List ℕ)) ℕ)
    → IsFromIterResult stack_cmp samples made → made.entries ≡ samples
entries-of_samples samples sorted made is =
    let distinct = IsDistinct-from_sorted stack_cmp (keys_of samples) sorted in
    same_samples made.entries samples is.1 sorted
    (λ stack. is.0 stack ∙ update_all_none (eq_by_cmp_equiv stacks_total) (eq_by_cmp stack_cmp) (λ x y. refl) samples stack distinct)
