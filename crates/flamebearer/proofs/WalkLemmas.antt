-- A tree, and what one stack more makes of it.
use Rattle.std.proofs.Common.{◌≡◌, ℕ, zero, suc, ◌+◌, ◌-◌, ◌<◌, ◌≤◌, ◌||◌, List, [], ◌∷◌, ◌++◌, length, map, take, Bool, true, false, cond, arith, refl, sym, ap, ◌∙◌, Some, None, subst, ⊎_elim}
use Rattle.std.specs.Prelude.{◌&&◌, not, nat_lt, unwrap_or, sum_by, if◌then◌else◌}
use Rattle.std.specs.List.{AllByRecursion, IsDistinct, list_any}
use Rattle.std.specs.List.Sorted.{IsStrictlySortedBy}
use Rattle.std.specs.Map.{keys_of, values_of, lookup}
use Rattle.std.specs.BTreeMap.{is_at}
use Rattle.std.specs.Cmp.{tied_itself}
use Rattle.std.specs.Ordering.{is_eq}
use Rattle.std.specs.declared.cmp.Ordering.TheVariants.{Less}
use Rattle.std.proofs.lemmas.Bool.{true≢false, cases_lt, false_from_ne_true, or_parts}
use Rattle.std.proofs.lemmas.Bool.Decides.{Decides-ltb}
use Rattle.std.proofs.lemmas.List.{map-append, length-take-le}
use Rattle.std.proofs.lemmas.List.Elements.{filter-append}
use Rattle.std.proofs.lemmas.List.FromFn.{get_or-map-range_with_len, length-map-range_with_len}
use Rattle.std.proofs.lemmas.List.Sums.{sum_by-append, sum_by-cons}
use Rattle.std.proofs.lemmas.List.Folds.{list_any-append, list_any_at}
use Rattle.profile_model.proofs.EntryLemmas.{all_map}
use Rattle.profile_model.specs.Sums.{Sample, value_of, total_of}
use Rattle.profile_model.specs.Stacks.{stack_cmp}
use Rattle.profile_model.specs.StackOrder.{stack_eq, stacks_ties, stacks_total}
use Rattle.flamebearer.specs.Trees.{begins_with, beginning_with, firsts, node_of, tree_of}
use Rattle.flamebearer.specs.Parts.{PartAt}
use Rattle.flamebearer.specs.Pushes.{fresh, fronts, grown}
use Rattle.flamebearer.proofs.PrefixLemmas.{AreBelow, above_is_new, begins_with_take, begun, cut, length_begun, other_length, same_stack, shorter_below, stack_same, take_below}
use Rattle.flamebearer.proofs.FirstLemmas.{found_of, found_of-push}

abbrev Stack : Type 0
Stack = List (List ℕ)

-- ---- lists

all-append : {X : Type 0} (P : X → Type 0) (xs ys : List X) → AllByRecursion P xs → AllByRecursion P ys → AllByRecursion P (xs ++ ys)
all-append P [] ys a b = b
all-append P (x ∷ xs) ys a b = (a.0, all-append P xs ys a.1 b)

all-fronts : (P : Stack → Type 0) (stack : Stack) (from count : ℕ) → ((n : ℕ) → from ≤ n → n < from + count → P (take (n + 1) stack))
    → AllByRecursion P (fronts stack from count)
all-fronts P stack from zero each = tt
all-fronts P stack from (suc count) each = (each from (omega arith) (omega arith), all-fronts P stack (from + 1) count (λ n far near. each n (omega arith) (omega arith)))

distinct-append : (xs ys : List Stack) → IsDistinct stack_eq xs → IsDistinct stack_eq ys
    → AllByRecursion (λ x. AllByRecursion (λ y. stack_eq x y ≡ false) ys) xs → IsDistinct stack_eq (xs ++ ys)
unfolding IsDistinct
distinct-append [] ys a b apart = b
distinct-append (x ∷ xs) ys a b apart = (all-append (λ y. stack_eq x y ≡ false) xs ys a.0 apart.0, distinct-append xs ys a.1 b apart.1)

distinct-fronts : (stack : Stack) (from count : ℕ) → from + count ≤ length stack → IsDistinct stack_eq (fronts stack from count)
unfolding IsDistinct
distinct-fronts stack from zero within = tt
distinct-fronts stack from (suc count) within = (
  all-fronts (λ y. stack_eq (take (from + 1) stack) y ≡ false) stack (from + 1) count (λ n far near.
      let longer = length-take-le (n + 1) stack (omega arith) in
      let shorter = length-take-le (from + 1) stack (omega arith) in
      other_length (take (from + 1) stack) (take (n + 1) stack) (λ same. absurd (omega arith))),
  distinct-fronts stack (from + 1) count (omega arith),
)

ascending-append : (xs ys : List Stack) → IsStrictlySortedBy stack_cmp xs → IsStrictlySortedBy stack_cmp ys
    → AllByRecursion (λ x. AllByRecursion (λ y. stack_cmp x y ≡ Less) ys) xs → IsStrictlySortedBy stack_cmp (xs ++ ys)
unfolding IsStrictlySortedBy
ascending-append [] ys a b apart = b
ascending-append (x ∷ xs) ys a b apart = (all-append (λ y. stack_cmp x y ≡ Less) xs ys a.0 apart.0, ascending-append xs ys a.1 b apart.1)

ascending-fronts : (stack : Stack) (from count : ℕ) → from + count ≤ length stack → IsStrictlySortedBy stack_cmp (fronts stack from count)
unfolding IsStrictlySortedBy
ascending-fronts stack from zero within = tt
ascending-fronts stack from (suc count) within = (
  all-fronts (λ y. stack_cmp (take (from + 1) stack) y ≡ Less) stack (from + 1) count (λ n far near. shorter_below (from + 1) (n + 1) stack (omega arith) (omega arith)),
  ascending-fronts stack (from + 1) count (omega arith),
)

map-all : {X Y Z : Type 0} (f : X → Z) (g : Y → Z) (h : X → Y) (xs : List X) → AllByRecursion (λ x. f x ≡ g (h x)) xs → map f xs ≡ map g (map h xs)
map-all f g h [] all = refl
map-all f g h (x ∷ xs) all = λ i. all.0 i ∷ map-all f g h xs all.1 i

map-all-one : {X Z : Type 0} (f g : X → Z) (xs : List X) → AllByRecursion (λ x. f x ≡ g x) xs → map f xs ≡ map g xs
map-all-one f g [] all = refl
map-all-one f g (x ∷ xs) all = λ i. all.0 i ∷ map-all-one f g xs all.1 i

-- ---- one node

lookup-skip : (test : Stack → Bool) (samples : List Sample) (stack : Stack) (value : ℕ) → test stack ≡ false
    → lookup test (samples ++ (stack, value) ∷ []) ≡ lookup test samples
lookup-skip test [] stack value other = ap (λ b. cond b (Some value) None) other
lookup-skip test (e ∷ es) stack value other = ap (λ rest. cond (test e.0) (Some e.1) rest) (lookup-skip test es stack value other)

lookup-last : (test : Stack → Bool) (samples : List Sample) (stack : Stack) (value : ℕ) → list_any test (keys_of samples) ≡ false
    → unwrap_or (lookup test (samples ++ (stack, value) ∷ [])) 0 ≡ (if test stack then value else 0)
lookup-last test [] stack value none = by (test stack)
  where
    by : (b : Bool) → unwrap_or (cond b (Some value) None) 0 ≡ cond b value 0
    by true = refl
    by false = refl
lookup-last test (e ∷ es) stack value none = by (test e.0) none (lookup-last test es stack value)
  where
    by : (b : Bool) → (b || list_any test (keys_of es)) ≡ false
        → (list_any test (keys_of es) ≡ false → unwrap_or (lookup test (es ++ (stack, value) ∷ [])) 0 ≡ cond (test stack) value 0)
        → unwrap_or (cond b (Some e.1) (lookup test (es ++ (stack, value) ∷ []))) 0 ≡ cond (test stack) value 0
    by true none later = absurd (true≢false none)
    by false none later = later none

-- a stack that no other begins with isn't among them
not_itself : (p : Stack) (keys : List Stack) → list_any (begins_with p) keys ≡ false → list_any (is_at (stack_cmp p)) keys ≡ false
not_itself p [] none = refl
not_itself p (k ∷ keys) none = by (begins_with p k) refl none (not_itself p keys)
  where
    by : (b : Bool) → begins_with p k ≡ b → (b || list_any (begins_with p) keys) ≡ false
        → (list_any (begins_with p) keys ≡ false → list_any (is_at (stack_cmp p)) keys ≡ false) → (is_eq (stack_cmp p k) || list_any (is_at (stack_cmp p)) keys) ≡ false
    by true is none later = absurd (true≢false none)
    by false is none later =
        let other : is_eq (stack_cmp p k) ≡ false = false_from_ne_true _ (λ same.
        let equal = stack_same p k (stacks_ties p k ∙ same) in
        true≢false (sym (same_stack (take (length p) k) p (ap (take (length p)) (sym equal) ∙ whole p)) ∙ is)) in
        ap (λ b. b || list_any (is_at (stack_cmp p)) keys) other ∙ later none
      where
        whole : (xs : Stack) → take (length xs) xs ≡ xs
        whole [] = refl
        whole (x ∷ xs) = ap (λ rest. x ∷ rest) (whole xs)

total-none : (p : Stack) (samples : List Sample) → list_any (begins_with p) (keys_of samples) ≡ false → total_of (beginning_with p samples) ≡ 0
total-none p [] none = refl
total-none p (e ∷ es) none = by (begins_with p e.0) none (total-none p es)
  where
    by : (b : Bool) → (b || list_any (begins_with p) (keys_of es)) ≡ false
        → (list_any (begins_with p) (keys_of es) ≡ false → total_of (beginning_with p es) ≡ 0) → total_of (cond b (e ∷ beginning_with p es) (beginning_with p es)) ≡ 0
    by true none later = absurd (true≢false none)
    by false none later = later none

pub total-push : (p : List (List ℕ)) (samples : List Sample) (stack : List (List ℕ)) (value : ℕ)
    → total_of (beginning_with p (samples ++ (stack, value) ∷ [])) ≡ total_of (beginning_with p samples) + (if begins_with p stack then value else 0)
total-push p samples stack value =
    ap total_of (filter-append (λ (e : Sample). begins_with p e.0) samples ((stack, value) ∷ []))
    ∙ ap (sum_by (λ (v : ℕ). v)) (map-append (λ (e : Sample). e.1) (beginning_with p samples) (beginning_with p ((stack, value) ∷ [])))
    ∙ sum_by-append (λ (v : ℕ). v) (values_of (beginning_with p samples)) (values_of (beginning_with p ((stack, value) ∷ [])))
    ∙ ap (λ n. total_of (beginning_with p samples) + n) (by (begins_with p stack))
  where
    by : (b : Bool) → total_of (cond b ((stack, value) ∷ []) []) ≡ cond b value 0
    by true = let one = sum_by-cons (λ (v : ℕ). v) value [] in omega arith
    by false = refl

-- no total is more than all values together
pub total-le : (p : Stack) (samples : List Sample) → total_of (beginning_with p samples) ≤ total_of samples
total-le p [] = omega arith
total-le p (e ∷ es) = by (begins_with p e.0) (total-le p es) (sum_by-cons (λ (v : ℕ). v) e.1 (values_of es)) (sum_by-cons (λ (v : ℕ). v) e.1 (values_of (beginning_with p es)))
  where
    by : (b : Bool) → total_of (beginning_with p es) ≤ total_of es → total_of (e ∷ es) ≡ e.1 + total_of es
        → total_of (e ∷ beginning_with p es) ≡ e.1 + total_of (beginning_with p es)
        → total_of (cond b (e ∷ beginning_with p es) (beginning_with p es)) ≤ total_of (e ∷ es)
    by true few all one = omega arith
    by false few all one = omega arith

-- ---- a walk along ascending stacks

-- where a walk stands that has come to this path
pub record IsWalked (samples : List Sample) (path : List (List ℕ)) : Type 0 where
  pub distinct : IsDistinct stack_eq (found_of samples)
  pub ascending : IsStrictlySortedBy stack_cmp (found_of samples)
  pub below : AreBelow path (found_of samples)
  pub met : (p : List (List ℕ)) → 0 < length p → list_any (stack_eq p) (found_of samples) ≡ false → list_any (begins_with p) (keys_of samples) ≡ false

pub walked-none : IsWalked [] []
unfolding firsts IsDistinct IsStrictlySortedBy
walked-none = record { distinct = tt; ascending = tt; below = tt; met = λ p some none. refl }

-- the next stack: greater than the path, with which it shares c frames, whose nodes are there
pub record IsNext (samples : List Sample) (path stack : List (List ℕ)) (c : ℕ) : Type 0 where
  pub part : PartAt path stack c
  pub greater : stack_cmp path stack ≡ Less
  pub there : (n : ℕ) → n < c → list_any (stack_eq (take (n + 1) stack)) (found_of samples) ≡ true

is_new : (samples : List Sample) (path stack : Stack) (c : ℕ) → IsWalked samples path → IsNext samples path stack c
    → (n : ℕ) → c ≤ n → n < length stack → list_any (stack_eq (take (n + 1) stack)) (found_of samples) ≡ false
is_new samples path stack c walked next n far near =
    above_is_new path (take (n + 1) stack) (found_of samples) walked.below (cut c n path stack next.part next.greater far near)

pub found-next : (samples : List Sample) (path stack : List (List ℕ)) (value c : ℕ) → IsWalked samples path → IsNext samples path stack c
    → found_of (samples ++ (stack, value) ∷ []) ≡ found_of samples ++ fronts stack c (length stack - c)
found-next samples path stack value c walked next =
    found_of-push samples stack value c next.part.in_second next.there (is_new samples path stack c walked next)

old_node : (samples : List Sample) (path stack : Stack) (value c : ℕ) → PartAt path stack c → stack_cmp path stack ≡ Less
    → (p : Stack) → ((m : Stack) → stack_cmp path m ≡ Less → stack_cmp p m ≡ Less)
    → node_of (samples ++ (stack, value) ∷ []) p ≡ grown c stack value (node_of samples p)
unfolding node_of grown
old_node samples path stack value c part greater p below =
    λ i. record { stack = p; own = own i; total = (total-push p samples stack value ∙ ap (λ b. total_of (beginning_with p samples) + cond b value 0) (sym (kept (begins_with p stack) refl))) i }
  where
    own : value_of (samples ++ (stack, value) ∷ []) p ≡ value_of samples p
    own = ap (λ found. unwrap_or found 0) (lookup-skip (is_at (stack_cmp p)) samples stack value (ap is_eq (below stack greater)))

    short : begins_with p stack ≡ true → c < length p → ⊥
    short is long =
        let within = length_begun p stack is in
        let front : take (length p - 1 + 1) stack ≡ p = ap (λ n. take n stack) (back (length p) (omega arith)) ∙ begun p stack is in
        let lower : stack_cmp p (take (length p - 1 + 1) stack) ≡ Less = below _ (cut c (length p - 1) path stack part greater (omega arith) (omega arith)) in
        true≢false (sym (ap is_eq (tied_itself stacks_total p)) ∙ ap (λ q. is_eq (stack_cmp p q)) (sym front) ∙ ap is_eq lower)
      where
        back : (n : ℕ) → 0 < n → n - 1 + 1 ≡ n
        back n some = omega arith

    kept : (b : Bool) → begins_with p stack ≡ b → (b && not (nat_lt c (length p))) ≡ b
    kept false is = refl
    kept true is = ap not (false_from_ne_true (nat_lt c (length p)) (λ long. short is ((Decides-ltb c (length p)).0 long)))

new_node : (samples : List Sample) (stack : Stack) (value : ℕ) (p : Stack) → list_any (begins_with p) (keys_of samples) ≡ false → begins_with p stack ≡ true
    → node_of (samples ++ (stack, value) ∷ []) p ≡ fresh stack value p
unfolding node_of fresh
new_node samples stack value p none begins =
    let own : value_of (samples ++ (stack, value) ∷ []) p ≡ cond (stack_eq p stack) value 0 =
    lookup-last (is_at (stack_cmp p)) samples stack value (not_itself p (keys_of samples) none) ∙ ap (λ b. cond b value 0) (sym (stacks_ties p stack)) in
    let total : total_of (beginning_with p (samples ++ (stack, value) ∷ [])) ≡ value =
    total-push p samples stack value ∙ (λ i. total-none p samples none i + cond (begins i) value 0) ∙ zero_more value in
    λ i. record { stack = p; own = own i; total = total i }
  where
    zero_more : (n : ℕ) → 0 + n ≡ n
    zero_more n = omega arith

pub tree-push : (samples : List Sample) (path stack : List (List ℕ)) (value c : ℕ) → IsWalked samples path → IsNext samples path stack c
    → tree_of (samples ++ (stack, value) ∷ []) ≡ map (grown c stack value) (tree_of samples) ++ map (fresh stack value) (fronts stack c (length stack - c))
unfolding tree_of
tree-push samples path stack value c walked next =
    let after = samples ++ (stack, value) ∷ [] in
    let found = found_of samples in
    let new = fronts stack c (length stack - c) in
    let olds = map-all (node_of after) (grown c stack value) (node_of samples) found
    (all_map (λ p below. old_node samples path stack value c next.part next.greater p below) found walked.below) in
    let inner = next.part.in_second in
    let news = map-all-one (node_of after) (fresh stack value) new
    (all-fronts (λ p. node_of after p ≡ fresh stack value p) stack c (length stack - c) (λ n far near.
    let long = length-take-le (n + 1) stack (omega arith) in
    new_node samples stack value (take (n + 1) stack)
    (walked.met (take (n + 1) stack) (omega arith) (is_new samples path stack c walked next n far (omega arith)))
    (begins_with_take (n + 1) stack (omega arith)))) in
    ap (map (node_of after)) (found-next samples path stack value c walked next)
    ∙ map-append (node_of after) found new
    ∙ (λ i. olds i ++ news i)

pub walked-push : (samples : List Sample) (path stack : List (List ℕ)) (value c : ℕ) → IsWalked samples path → IsNext samples path stack c
    → IsWalked (samples ++ (stack, value) ∷ []) stack
walked-push samples path stack value c walked next =
    let found = found_of samples in
    let rest = length stack - c in
    let new = fronts stack c rest in
    let is = found-next samples path stack value c walked next in
    let inner = next.part.in_second in
    let above : (q : Stack) → ((m : Stack) → stack_cmp path m ≡ Less → stack_cmp q m ≡ Less) → AllByRecursion (λ y. stack_eq q y ≡ false) new =
    λ q below. all-fronts (λ y. stack_eq q y ≡ false) stack c rest (λ n far near.
    stacks_ties q (take (n + 1) stack) ∙ ap is_eq (below (take (n + 1) stack) (cut c n path stack next.part next.greater far (omega arith)))) in
    let lower : (q : Stack) → ((m : Stack) → stack_cmp path m ≡ Less → stack_cmp q m ≡ Less) → AllByRecursion (λ y. stack_cmp q y ≡ Less) new =
    λ q below. all-fronts (λ y. stack_cmp q y ≡ Less) stack c rest (λ n far near. below (take (n + 1) stack) (cut c n path stack next.part next.greater far (omega arith))) in
    record {
      distinct = subst (IsDistinct stack_eq) (sym is)
          (distinct-append found new walked.distinct (distinct-fronts stack c rest (omega arith)) (all_map above found walked.below));
      ascending = subst (IsStrictlySortedBy stack_cmp) (sym is)
          (ascending-append found new walked.ascending (ascending-fronts stack c rest (omega arith)) (all_map lower found walked.below));
      below = subst (AreBelow stack) (sym is)
          (all-append (λ q. (m : Stack) → stack_cmp stack m ≡ Less → stack_cmp q m ≡ Less) found new
          (all_map (λ q below m more. below m (stacks_total.trans path stack m next.greater more)) found walked.below)
          (all-fronts (λ q. (m : Stack) → stack_cmp stack m ≡ Less → stack_cmp q m ≡ Less) stack c rest (λ n far near m more. take_below (n + 1) stack m more)));
      met = λ p some none.
          let parts = or_parts (list_any (stack_eq p) found) (list_any (stack_eq p) new)
          (sym (list_any-append (stack_eq p) found new) ∙ ap (list_any (stack_eq p)) (sym is) ∙ none) in
          ap (list_any (begins_with p)) (map-append (λ (e : Sample). e.0) samples ((stack, value) ∷ []))
          ∙ list_any-append (begins_with p) (keys_of samples) (stack ∷ [])
          ∙ (λ i. walked.met p some parts.0 i || (unmet p some parts.0 parts.1 i || false));
    }
  where
    unmet : (p : Stack) → 0 < length p → list_any (stack_eq p) (found_of samples) ≡ false
        → list_any (stack_eq p) (fronts stack c (length stack - c)) ≡ false → begins_with p stack ≡ false
    unmet p some old new = false_from_ne_true (begins_with p stack) (λ begins.
        let within = length_begun p stack begins in
        let front : take (length p - 1 + 1) stack ≡ p = ap (λ n. take n stack) (back (length p) some) ∙ begun p stack begins in
        ⊎_elim
        (λ near. true≢false (sym (next.there (length p - 1) near) ∙ ap (λ q. list_any (stack_eq q) (found_of samples)) front ∙ old))
        (λ far. true≢false (sym (list_any_at (stack_eq p) (fronts stack c (length stack - c)) (length p - 1 - c) []
        (let all = length-map-range_with_len (λ n. take (n + 1) stack) c (length stack - c) in omega arith)
        (same_stack p _ (sym front ∙ sym (get_or-map-range_with_len (λ n. take (n + 1) stack) c (length stack - c) (length p - 1 - c) (length p - 1) [] (omega arith) (omega arith)))))
        ∙ new))
        (cases_lt (length p - 1) c))
      where
        back : (n : ℕ) → 0 < n → n - 1 + 1 ≡ n
        back n some = omega arith
