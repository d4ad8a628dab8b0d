-- Members put in their places, one after another.
use Rattle.std.proofs.Common.{◌≡◌, List, [], ◌∷◌, map, fold, Bool, true, false, ◌||◌, Ordering, Less, Equal, Greater, refl, sym, ap, ◌∙◌}
use Rattle.std.specs.BTreeSet.{insert_key}
use Rattle.std.specs.List.{AllByRecursion, list_any}
use Rattle.std.specs.List.Sorted.{IsStrictlySortedBy}
use Rattle.std.specs.Ordering.{eq_by_cmp, is_eq, match_ordering, ordering_reverse}
use Rattle.std.specs.Cmp.{IsTotalOrder}
use Rattle.std.proofs.lemmas.Cmp.{alike_right}
use Rattle.label_queries.specs.Ordered.{AreMembersOf, ascending}

module _ {A : Type 0} {cmp : A → A → Ordering} (o : IsTotalOrder cmp) where
  -- ---- in order

  abbrev AreAbove : A → List A → Type 0
  AreAbove x ys = AllByRecursion (λ y. cmp x y ≡ Less) ys

  above_insert_at : (r : Ordering) (x y k : A) (ys more : List A) → cmp x k ≡ Less → AreAbove x (y ∷ ys) → AreAbove x more
      → AreAbove x (match_ordering r (k ∷ y ∷ ys) (y ∷ ys) (y ∷ more))
  above_insert_at Less x y k ys more here above later = (here, above)
  above_insert_at Equal x y k ys more here above later = above
  above_insert_at Greater x y k ys more here above later = (above.0, later)

  above_insert : (x k : A) (ys : List A) → cmp x k ≡ Less → AreAbove x ys → AreAbove x (insert_key cmp ys k)
  above_insert x k [] here above = (here, tt)
  above_insert x k (y ∷ ys) here above = above_insert_at (cmp k y) x y k ys _ here above (above_insert x k ys here above.1)

  above_lower : (k x : A) (ys : List A) → cmp k x ≡ Less → AreAbove x ys → AreAbove k ys
  above_lower k x [] lower above = tt
  above_lower k x (y ∷ ys) lower above = (o.trans k x y lower above.0, above_lower k x ys lower above.1)

  sorted_insert_at : (r : Ordering) (k x : A) (xs : List A) → cmp k x ≡ r → IsStrictlySortedBy cmp (x ∷ xs)
      → IsStrictlySortedBy cmp (insert_key cmp xs k)
      → IsStrictlySortedBy cmp (match_ordering r (k ∷ x ∷ xs) (x ∷ xs) (x ∷ insert_key cmp xs k))
  unfolding IsStrictlySortedBy
  sorted_insert_at Less k x xs is sorted later = ((is, above_lower k x xs is sorted.0), sorted)
  sorted_insert_at Equal k x xs is sorted later = sorted
  sorted_insert_at Greater k x xs is sorted later = (above_insert x k xs (o.antisymm x k ∙ ap ordering_reverse is) sorted.0, later)

  sorted_insert : (k : A) (xs : List A) → IsStrictlySortedBy cmp xs → IsStrictlySortedBy cmp (insert_key cmp xs k)
  unfolding IsStrictlySortedBy
  sorted_insert k [] sorted = (tt, tt)
  sorted_insert k (x ∷ xs) sorted = sorted_insert_at (cmp k x) k x xs refl sorted (sorted_insert k xs sorted.1)

  sorted_fold : (found xs : List A) → IsStrictlySortedBy cmp found → IsStrictlySortedBy cmp (fold (insert_key cmp) found xs)
  sorted_fold found [] sorted = sorted
  sorted_fold found (x ∷ xs) sorted = sorted_fold (insert_key cmp found x) xs (sorted_insert x found sorted)

  -- ---- the same members

  or_twice : (a b : Bool) → (a || b) ≡ (a || (a || b))
  or_twice true b = refl
  or_twice false b = refl

  or_swap : (a b c : Bool) → (a || (b || c)) ≡ (b || (a || c))
  or_swap true true c = refl
  or_swap true false c = refl
  or_swap false b c = refl

  or_apart : (a b c : Bool) → ((a || b) || c) ≡ (b || (a || c))
  or_apart true true c = refl
  or_apart true false c = refl
  or_apart false b c = refl

  has_insert_at : (r : Ordering) (q k x : A) (xs : List A) → cmp k x ≡ r
      → list_any (eq_by_cmp cmp q) (insert_key cmp xs k) ≡ (eq_by_cmp cmp q k || list_any (eq_by_cmp cmp q) xs)
      → list_any (eq_by_cmp cmp q) (match_ordering r (k ∷ x ∷ xs) (x ∷ xs) (x ∷ insert_key cmp xs k))
      ≡ (eq_by_cmp cmp q k || list_any (eq_by_cmp cmp q) (x ∷ xs))
  has_insert_at Less q k x xs is later = refl
  has_insert_at Equal q k x xs is later =
      let same : eq_by_cmp cmp q k ≡ eq_by_cmp cmp q x = ap is_eq (alike_right o k x q is) in
      rw same (or_twice (eq_by_cmp cmp q x) (list_any (eq_by_cmp cmp q) xs))
  has_insert_at Greater q k x xs is later = rw later (or_swap (eq_by_cmp cmp q x) (eq_by_cmp cmp q k) (list_any (eq_by_cmp cmp q) xs))

  has_insert : (q k : A) (xs : List A)
      → list_any (eq_by_cmp cmp q) (insert_key cmp xs k) ≡ (eq_by_cmp cmp q k || list_any (eq_by_cmp cmp q) xs)
  has_insert q k [] = refl
  has_insert q k (x ∷ xs) = has_insert_at (cmp k x) q k x xs refl (has_insert q k xs)

  or_none : (a : Bool) → (a || false) ≡ a
  or_none true = refl
  or_none false = refl

  has_fold : (q : A) (found xs : List A)
      → list_any (eq_by_cmp cmp q) (fold (insert_key cmp) found xs) ≡ (list_any (eq_by_cmp cmp q) found || list_any (eq_by_cmp cmp q) xs)
  has_fold q found [] = sym (or_none _)
  has_fold q found (x ∷ xs) =
      has_fold q (insert_key cmp found x) xs ∙ ap (λ b. b || list_any (eq_by_cmp cmp q) xs) (has_insert q x found)
      ∙ or_apart (eq_by_cmp cmp q x) (list_any (eq_by_cmp cmp q) found) (list_any (eq_by_cmp cmp q) xs)

  pub ascending_are_members : (xs : List A) → AreMembersOf cmp xs (ascending cmp xs)
  unfolding IsStrictlySortedBy
  ascending_are_members xs = record { ascending = sorted_fold [] xs tt; same = λ q. has_fold q [] xs }

-- ---- members seen by f, where f keeps their order

insert_seen_at : {A B : Type 0} (f : A → B) (r : Ordering) (a b c : List A)
    → map f (match_ordering r a b c) ≡ match_ordering r (map f a) (map f b) (map f c)
insert_seen_at f Less a b c = refl
insert_seen_at f Equal a b c = refl
insert_seen_at f Greater a b c = refl

pub insert_seen : {A B : Type 0} (f : A → B) (cmp : A → A → Ordering) (seen : B → B → Ordering) → ((x y : A) → cmp x y ≡ seen (f x) (f y))
    → (xs : List A) (k : A) → map f (insert_key cmp xs k) ≡ insert_key seen (map f xs) (f k)
insert_seen f cmp seen same [] k = refl
insert_seen f cmp seen same (x ∷ xs) k = insert_seen_at f (cmp k x) _ _ _ ∙ rw (same k x, insert_seen f cmp seen same xs k)
