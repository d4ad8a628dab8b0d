-- Members put in their places, one after another, ascend.
use Rattle.std.proofs.Common.{◌≡◌, List, [], ◌∷◌, fold, Ordering, Less, Equal, Greater, refl, ap, ◌∙◌}
use Rattle.std.specs.BTreeSet.{insert_key}
use Rattle.std.specs.List.{AllByRecursion}
use Rattle.std.specs.List.Sorted.{IsStrictlySortedBy}
use Rattle.std.specs.Ordering.{match_ordering, ordering_reverse}
use Rattle.std.specs.Cmp.{IsTotalOrder}

module _ {A : Type 0} {cmp : A → A → Ordering} (o : IsTotalOrder cmp) where
  -- ---- in order

  abbrev AreAbove : A → List A → Type 0
  AreAbove x ys = AllByRecursion (λ y. cmp x y ≡ Less) ys

  above_insert_at : (r : Ordering) (x y k : A) (ys more : List A) → cmp x k ≡ Less → AreAbove x (y ∷ ys) → AreAbove x more
      → AreAbove x (match_ordering r (k ∷ y ∷ ys) (y ∷ ys) (y ∷ more))
  above_insert_at Less x y k ys more here above later = (here, above)
  above_insert_at Equal x y k ys more here above later = above
  above_insert_at Greater x y k ys more here above later = (above.0, later)

  above_insert : (x k : A) (ys : List A) → cmp x k ≡ Less → AreAbove x ys → AreAbove x (insert_key cmp ys k)
  above_insert x k [] here above = (here, tt)
  above_insert x k (y ∷ ys) here above = above_insert_at (cmp k y) x y k ys _ here above (above_insert x k ys here above.1)

  above_lower : (k x : A) (ys : List A) → cmp k x ≡ Less → AreAbove x ys → AreAbove k ys
  above_lower k x [] lower above = tt
  above_lower k x (y ∷ ys) lower above = (o.trans k x y lower above.0, above_lower k x ys lower above.1)

  sorted_insert_at : (r : Ordering) (k x : A) (xs : List A) → cmp k x ≡ r → IsStrictlySortedBy cmp (x ∷ xs)
      → IsStrictlySortedBy cmp (insert_key cmp xs k)
      → IsStrictlySortedBy cmp (match_ordering r (k ∷ x ∷ xs) (x ∷ xs) (x ∷ insert_key cmp xs k))
  unfolding IsStrictlySortedBy
  sorted_insert_at Less k x xs is sorted later = ((is, above_lower k x xs is sorted.0), sorted)
  sorted_insert_at Equal k x xs is sorted later = sorted
  sorted_insert_at Greater k x xs is sorted later = (above_insert x k xs (o.antisymm x k ∙ ap ordering_reverse is) sorted.0, later)

  sorted_insert : (k : A) (xs : List A) → IsStrictlySortedBy cmp xs → IsStrictlySortedBy cmp (insert_key cmp xs k)
  unfolding IsStrictlySortedBy
  sorted_insert k [] sorted = (tt, tt)
  sorted_insert k (x ∷ xs) sorted = sorted_insert_at (cmp k x) k x xs refl sorted (sorted_insert k xs sorted.1)

  pub sorted_fold : (found xs : List A) → IsStrictlySortedBy cmp found → IsStrictlySortedBy cmp (fold (insert_key cmp) found xs)
  sorted_fold found [] sorted = sorted
  sorted_fold found (x ∷ xs) sorted = sorted_fold (insert_key cmp found x) xs (sorted_insert x found sorted)
