-- A key written to entries in the order of their keys.
use Rattle.std.proofs.Common.{◌≡◌, ◌∙◌, ◌+◌, ◌≤◌, List, [], ◌∷◌, Bool, true, false, cond, arith, length, Some, None, Option, refl, sym, ap}
use Rattle.std.specs.List.{AllByRecursion}
use Rattle.std.specs.List.Sorted.{IsStrictlySortedBy}
use Rattle.std.specs.Map.{lookup, keys_of}
use Rattle.std.specs.BTreeMap.{is_at, insert_entry}
use Rattle.std.specs.Cmp.{IsTotalOrder, alike_right}
use Rattle.std.specs.Ordering.{is_eq, ordering_reverse, match_ordering}
use Rattle.std.specs.declared.cmp.Ordering.{Ordering}
use Rattle.std.specs.declared.cmp.Ordering.TheVariants.{Less, Equal, Greater}
use Rattle.std.proofs.lemmas.Bool.{true≢false}

module _ {K X : Type 0} (P : K → Type 0) (cmp : K → K → Ordering) (k : K) (v : X) where
  pub all_keys : (es : List (K × X)) → P k → AllByRecursion P (keys_of es) → AllByRecursion P (keys_of (insert_entry cmp es k v))
  all_keys [] here all = (here, tt)
  all_keys (e ∷ es) here all = by (cmp k e.0) (all_keys es here all.1)
    where
      by : (o : Ordering) → AllByRecursion P (keys_of (insert_entry cmp es k v))
          → AllByRecursion P (keys_of (match_ordering o ((k, v) ∷ e ∷ es) ((e.0, v) ∷ es) (e ∷ insert_entry cmp es k v)))
      by Less later = (here, all)
      by Equal later = all
      by Greater later = (all.0, later)

pub all_map : {K : Type 0} {P Q : K → Type 0} → ((x : K) → P x → Q x) → (xs : List K) → AllByRecursion P xs → AllByRecursion Q xs
all_map f [] all = tt
all_map f (x ∷ xs) all = (f x all.0, all_map f xs all.1)

module _ {K X : Type 0} {R : K → K → Ordering} (o : IsTotalOrder R) where
  pub sorted-insert_entry : (es : List (K × X)) (k : K) (v : X) → IsStrictlySortedBy R (keys_of es) → IsStrictlySortedBy R (keys_of (insert_entry R es k v))
  unfolding IsStrictlySortedBy
  sorted-insert_entry [] k v sorted = (tt, tt)
  sorted-insert_entry (e ∷ es) k v sorted = by (R k e.0) refl (sorted-insert_entry es k v sorted.1)
    where
      by : (r : Ordering) → R k e.0 ≡ r → IsStrictlySortedBy R (keys_of (insert_entry R es k v))
          → IsStrictlySortedBy R (keys_of (match_ordering r ((k, v) ∷ e ∷ es) ((e.0, v) ∷ es) (e ∷ insert_entry R es k v)))
      by Less is later = ((is, all_map (λ y above. o.trans k e.0 y is above) (keys_of es) sorted.0), sorted)
      by Equal is later = sorted
      by Greater is later = (all_keys (λ y. R e.0 y ≡ Less) R k v es (o.antisymm e.0 k ∙ ap ordering_reverse is) sorted.0, later)

  -- the key has the value, and each other key what it had
  pub lookup-insert_entry : (es : List (K × X)) (k : K) (v : X) (q : K)
      → lookup (is_at (R q)) (insert_entry R es k v) ≡ cond (is_eq (R q k)) (Some v) (lookup (is_at (R q)) es)
  lookup-insert_entry [] k v q = refl
  lookup-insert_entry (e ∷ es) k v q = by (R k e.0) refl (lookup-insert_entry es k v q)
    where
      twice : (b : Bool) (x y : Option X) → cond b (Some v) y ≡ cond b (Some v) (cond b x y)
      twice true x y = refl
      twice false x y = refl

      turned : (r s : Ordering) → R q k ≡ r → R q e.0 ≡ s → R k e.0 ≡ Greater → (y : Option X)
          → cond (is_eq s) (Some e.1) (cond (is_eq r) (Some v) y) ≡ cond (is_eq r) (Some v) (cond (is_eq s) (Some e.1) y)
      turned Less s at_k at_e is y = refl
      turned Greater s at_k at_e is y = refl
      turned Equal Less at_k at_e is y = refl
      turned Equal Greater at_k at_e is y = refl
      turned Equal Equal at_k at_e is y = absurd (true≢false (ap is_eq (sym at_e ∙ o.congr q k e.0 at_k ∙ is)))

      by : (r : Ordering) → R k e.0 ≡ r
          → lookup (is_at (R q)) (insert_entry R es k v) ≡ cond (is_eq (R q k)) (Some v) (lookup (is_at (R q)) es)
          → lookup (is_at (R q)) (match_ordering r ((k, v) ∷ e ∷ es) ((e.0, v) ∷ es) (e ∷ insert_entry R es k v))
          ≡ cond (is_eq (R q k)) (Some v) (lookup (is_at (R q)) (e ∷ es))
      by Less is later = refl
      by Equal is later = ap (λ b. cond (is_eq b) (Some v) (lookup (is_at (R q)) es)) (sym (alike_right o k e.0 q is))
          ∙ twice (is_eq (R q k)) (Some e.1) (lookup (is_at (R q)) es)
          ∙ ap (λ b. cond (is_eq (R q k)) (Some v) (cond (is_eq b) (Some e.1) (lookup (is_at (R q)) es))) (alike_right o k e.0 q is)
      by Greater is later = ap (λ found. cond (is_eq (R q e.0)) (Some e.1) found) later ∙ turned (R q k) (R q e.0) refl refl is (lookup (is_at (R q)) es)

  -- what is below all keys isn't there
  pub lookup-below : (es : List (K × X)) (q : K) → AllByRecursion (λ y. R q y ≡ Less) (keys_of es) → lookup (is_at (R q)) es ≡ None
  lookup-below [] q below = refl
  lookup-below (e ∷ es) q below = ap (λ r. cond (is_eq r) (Some e.1) (lookup (is_at (R q)) es)) below.0 ∙ lookup-below es q below.1

-- what holds of each entry holds after a write, where it holds of the new one, and of an old key with the new value
module _ {K X : Type 0} (P : K × X → Type 0) (cmp : K → K → Ordering) (k : K) (v : X) where
  pub all_entries : (es : List (K × X)) → P (k, v) → ((e : K × X) → P e → P (e.0, v)) → AllByRecursion P es → AllByRecursion P (insert_entry cmp es k v)
  all_entries [] new kept all = (new, tt)
  all_entries (e ∷ es) new kept all = by (cmp k e.0) (all_entries es new kept all.1)
    where
      by : (o : Ordering) → AllByRecursion P (insert_entry cmp es k v)
          → AllByRecursion P (match_ordering o ((k, v) ∷ e ∷ es) ((e.0, v) ∷ es) (e ∷ insert_entry cmp es k v))
      by Less later = (new, all)
      by Equal later = (kept e all.0, all.1)
      by Greater later = (all.0, later)

-- at most one entry more
pub length-insert_entry : {K X : Type 0} (cmp : K → K → Ordering) (es : List (K × X)) (k : K) (v : X) → length (insert_entry cmp es k v) ≤ length es + 1
length-insert_entry cmp [] k v = omega arith
length-insert_entry {K} {X} cmp (e ∷ es) k v = by (cmp k e.0) (length-insert_entry cmp es k v)
  where
    by : (o : Ordering) → length (insert_entry cmp es k v) ≤ length es + 1
        → length (match_ordering o ((k, v) ∷ e ∷ es) ((e.0, v) ∷ es) (e ∷ insert_entry cmp es k v)) ≤ length (e ∷ es) + 1
    by Less later = omega arith
    by Equal later = omega arith
    by Greater later = omega arith
