-- Nodes by their places, and which of them stand below a stack.
use Rattle.std.proofs.Common.{◌≡◌, ℕ, zero, suc, ◌+◌, ◌-◌, ◌<◌, ◌≤◌, List, [], ◌∷◌, ◌++◌, length, map, take, drop, get_or, Bool, true, false, cond, arith, refl, sym, ap, ◌∙◌, append-nil}
use Rattle.std.specs.Prelude.{filter, not}
use Rattle.std.specs.List.{AllByRecursion, range_with_len}
use Rattle.std.proofs.lemmas.List.Elements.{filter-append}
use Rattle.flamebearer.specs.declared.branches.Value.{Value}
use Rattle.flamebearer.specs.Sides.{nodes_with}
use Rattle.flamebearer.specs.Trees.{Node}
use Rattle.flamebearer.specs.Pictures.{is_child, kept_nodes, left_nodes, nodes_at}
use Rattle.flamebearer.proofs.ChildLemmas.{IsUnder, is_below}

-- the node at a place
abbrev pub node_at : List (List (List ℕ)) → List Value → ℕ → Node
node_at stacks values n = record {
  stack = get_or stacks n [];
  own = (get_or values n (record { own = 0; total = 0 })).own;
  total = (get_or values n (record { own = 0; total = 0 })).total;
}

pub length-nodes : (stacks : List (List (List ℕ))) (values : List Value) → length values ≡ length stacks → length (nodes_with stacks values) ≡ length stacks
length-nodes [] values many = refl
length-nodes (s ∷ ss) [] many = absurd (omega arith)
length-nodes (s ∷ ss) (v ∷ vs) many = ap suc (length-nodes ss vs (omega arith))

pub one_at : (stacks : List (List (List ℕ))) (values : List Value) (n : ℕ) → length values ≡ length stacks → n < length stacks
    → take 1 (drop n (nodes_with stacks values)) ≡ node_at stacks values n ∷ []
one_at [] values n many within = absurd (omega arith)
one_at (s ∷ ss) [] n many within = absurd (omega arith)
one_at (s ∷ ss) (v ∷ vs) zero many within = refl
one_at (s ∷ ss) (v ∷ vs) (suc n) many within = one_at ss vs n (omega arith) (omega arith)

pub nodes-at-map : (stacks : List (List (List ℕ))) (values : List Value) (places : List ℕ) → length values ≡ length stacks
    → AllByRecursion (λ n. n < length stacks) places → nodes_at (nodes_with stacks values) places ≡ map (node_at stacks values) places
nodes-at-map stacks values [] many within = refl
nodes-at-map stacks values (n ∷ ns) many within =
    λ i. one_at stacks values n many within.0 i ++ nodes-at-map stacks values ns many within.1 i

pub all-range : (count from more : ℕ) → from + more ≤ count → AllByRecursion (λ n. n < count) (range_with_len from more)
all-range count from zero within = tt
all-range count from (suc more) within = (omega arith, all-range count (from + 1) more (omega arith))

pub all-filter : {X : Type 0} (P : X → Type 0) (p : X → Bool) (xs : List X) → AllByRecursion P xs → AllByRecursion P (filter p xs)
all-filter P p [] all = tt
all-filter {X} P p (x ∷ xs) all = by (p x) (all-filter P p xs all.1)
  where
    by : (b : Bool) → AllByRecursion P (filter p xs) → AllByRecursion P (cond b (x ∷ filter p xs) (filter p xs))
    by true later = (all.0, later)
    by false later = later

pub filter-map : {X Y : Type 0} (p : Y → Bool) (f : X → Y) (xs : List X) → filter p (map f xs) ≡ map f (filter (λ x. p (f x)) xs)
filter-map p f [] = refl
filter-map {X} {Y} p f (x ∷ xs) = by (p (f x)) (filter-map p f xs)
  where
    by : (b : Bool) → filter p (map f xs) ≡ map f (filter (λ x. p (f x)) xs)
        → cond b (f x ∷ filter p (map f xs)) (filter p (map f xs)) ≡ map f (cond b (x ∷ filter (λ x. p (f x)) xs) (filter (λ x. p (f x)) xs))
    by true later = ap (λ r. f x ∷ r) later
    by false later = later

filter-cons : {X : Type 0} (p : X → Bool) (x : X) (xs : List X) (b : Bool) → p x ≡ b → filter p (x ∷ xs) ≡ cond b (x ∷ filter p xs) (filter p xs)
filter-cons p x xs b is = ap (λ b. cond b (x ∷ filter p xs) (filter p xs)) is

filter-comm : {X : Type 0} (p q : X → Bool) (xs : List X) → filter p (filter q xs) ≡ filter q (filter p xs)
filter-comm p q [] = refl
filter-comm {X} p q (x ∷ xs) = by (p x) (q x) refl refl (filter-comm p q xs)
  where
    by : (b c : Bool) → p x ≡ b → q x ≡ c → filter p (filter q xs) ≡ filter q (filter p xs) → filter p (filter q (x ∷ xs)) ≡ filter q (filter p (x ∷ xs))
    by true true one two later = ap (filter p) (filter-cons q x xs true two) ∙ filter-cons p x (filter q xs) true one ∙ ap (λ r. x ∷ r) later
        ∙ sym (filter-cons q x (filter p xs) true two) ∙ sym (ap (filter q) (filter-cons p x xs true one))
    by true false one two later = ap (filter p) (filter-cons q x xs false two) ∙ later
        ∙ sym (filter-cons q x (filter p xs) false two) ∙ sym (ap (filter q) (filter-cons p x xs true one))
    by false true one two later = ap (filter p) (filter-cons q x xs true two) ∙ filter-cons p x (filter q xs) false one ∙ later
        ∙ sym (ap (filter q) (filter-cons p x xs false one))
    by false false one two later = ap (filter p) (filter-cons q x xs false two) ∙ later ∙ sym (ap (filter q) (filter-cons p x xs false one))

pub range-split : (from count more : ℕ) → range_with_len from (count + more) ≡ range_with_len from count ++ range_with_len (from + count) more
range-split from zero more = λ i. range_with_len (zeros from i) (none more i)
  where
    zeros : (n : ℕ) → n ≡ n + 0
    zeros n = omega arith

    none : (n : ℕ) → 0 + n ≡ n
    none n = omega arith
range-split from (suc count) more =
    ap (range_with_len from) (moved count more) ∙ ap (λ rest. from ∷ rest) (range-split (from + 1) count more ∙ ap (λ a. range_with_len (from + 1) count ++ range_with_len a more) (along from count))
  where
    moved : (count more : ℕ) → suc count + more ≡ suc (count + more)
    moved count more = omega arith

    along : (from count : ℕ) → from + 1 + count ≡ from + suc count
    along from count = omega arith

pub range-more : (n : ℕ) → range_with_len 0 (n + 1) ≡ range_with_len 0 n ++ n ∷ []
range-more n = range-split 0 n 1 ∙ ap (λ a. range_with_len 0 n ++ a ∷ []) (none n)
  where
    none : (n : ℕ) → 0 + n ≡ n
    none n = omega arith

pub filter-none : (p : ℕ → Bool) (from count : ℕ) → ((n : ℕ) → from ≤ n → n < from + count → p n ≡ false) → filter p (range_with_len from count) ≡ []
filter-none p from zero none = refl
filter-none p from (suc count) none = filter-cons p from (range_with_len (from + 1) count) false (none from (omega arith) (omega arith))
    ∙ filter-none p (from + 1) count (λ n far near. none n (omega arith) (omega arith))

-- the places of what stands below a stack, among those from the first on
abbrev pub children : List (List (List ℕ)) → List (List ℕ) → ℕ → ℕ → List ℕ
children stacks front first count = filter (λ n. is_below front (get_or stacks n [])) (range_with_len first count)

-- one more child, which ends at `next`
pub children-more : (stacks : List (List (List ℕ))) (front : List (List ℕ)) (first at next : ℕ) → first ≤ at → at < next → is_below front (get_or stacks at []) ≡ true
    → ((n : ℕ) → at < n → n < next → is_below front (get_or stacks n []) ≡ false)
    → children stacks front first (next - first) ≡ children stacks front first (at - first) ++ at ∷ []
children-more stacks front first at next early later here deeper =
    let p = λ (n : ℕ). is_below front (get_or stacks n []) in
    ap (λ n. filter p (range_with_len first n)) (parts first at next early later)
    ∙ ap (filter p) (range-split first (at - first) (suc (next - at - 1)))
    ∙ filter-append p (range_with_len first (at - first)) (range_with_len (first + (at - first)) (suc (next - at - 1)))
    ∙ ap (λ a. filter p (range_with_len first (at - first)) ++ filter p (range_with_len a (suc (next - at - 1)))) (back first at early)
    ∙ ap (λ r. filter p (range_with_len first (at - first)) ++ r)
    (filter-cons p at (range_with_len (at + 1) (next - at - 1)) true here
    ∙ ap (λ r. at ∷ r) (filter-none p (at + 1) (next - at - 1) (λ n far near. deeper n (omega arith) (omega arith))))
  where
    parts : (first at next : ℕ) → first ≤ at → at < next → next - first ≡ at - first + suc (next - at - 1)
    parts first at next early later = omega arith

    back : (first at : ℕ) → first ≤ at → first + (at - first) ≡ at
    back first at early = omega arith

-- all of them stand up to the end
pub children-all : (stacks : List (List (List ℕ))) (ends : List ℕ) (front : List (List ℕ)) (first end : ℕ) → IsUnder stacks ends front first end → first ≤ end
    → children stacks front 0 (length stacks) ≡ children stacks front first (end - first)
children-all stacks ends front first end under some =
    let p = λ (n : ℕ). is_below front (get_or stacks n []) in
    let within = under.within in
    ap (λ n. filter p (range_with_len 0 n)) (parts first end (length stacks) some within)
    ∙ ap (filter p) (range-split 0 first (end - first + (length stacks - end)))
    ∙ filter-append p (range_with_len 0 first) (range_with_len (0 + first) (end - first + (length stacks - end)))
    ∙ (λ i. filter-none p 0 first (λ n far near. under.before n (omega arith) (omega arith)) i
    ++ filter p (range_with_len (none first i) (end - first + (length stacks - end))))
    ∙ ap (filter p) (range-split first (end - first) (length stacks - end))
    ∙ filter-append p (range_with_len first (end - first)) (range_with_len (first + (end - first)) (length stacks - end))
    ∙ ap (λ r. filter p (range_with_len first (end - first)) ++ r)
    (filter-none p (first + (end - first)) (length stacks - end) (λ n far near. under.after n (omega arith) (omega arith)))
    ∙ append-nil (filter p (range_with_len first (end - first)))
  where
    parts : (first end count : ℕ) → first ≤ end → end ≤ count → count ≡ first + (end - first + (count - end))
    parts first end count some within = omega arith

    none : (n : ℕ) → 0 + n ≡ n
    none n = omega arith

-- of the nodes that pass, those just below a stack
picked : (stacks : List (List (List ℕ))) (values : List Value) (front : List (List ℕ)) (p : ℕ → Bool) → length values ≡ length stacks
    → filter (is_child front) (nodes_at (nodes_with stacks values) (filter p (range_with_len 0 (length (nodes_with stacks values)))))
    ≡ map (node_at stacks values) (filter p (children stacks front 0 (length stacks)))
picked stacks values front p many =
    ap (λ n. filter (is_child front) (nodes_at (nodes_with stacks values) (filter p (range_with_len 0 n)))) (length-nodes stacks values many)
    ∙ ap (filter (is_child front)) (nodes-at-map stacks values (filter p (range_with_len 0 (length stacks))) many
    (all-filter (λ n. n < length stacks) p (range_with_len 0 (length stacks)) (all-range (length stacks) 0 (length stacks) (omega arith))))
    ∙ filter-map (is_child front) (node_at stacks values) (filter p (range_with_len 0 (length stacks)))
    ∙ ap (map (node_at stacks values)) (filter-comm (λ n. is_below front (get_or stacks n [])) p (range_with_len 0 (length stacks)))

pub kept-children : (stacks : List (List (List ℕ))) (values : List Value) (ends : List ℕ) (front : List (List ℕ)) (first end : ℕ) (kept : ℕ → Bool)
    → length values ≡ length stacks → IsUnder stacks ends front first end → first ≤ end
    → filter (is_child front) (kept_nodes kept (nodes_with stacks values)) ≡ map (node_at stacks values) (filter kept (children stacks front first (end - first)))
kept-children stacks values ends front first end kept many under some =
    picked stacks values front kept many ∙ ap (λ c. map (node_at stacks values) (filter kept c)) (children-all stacks ends front first end under some)

pub left-children : (stacks : List (List (List ℕ))) (values : List Value) (ends : List ℕ) (front : List (List ℕ)) (first end : ℕ) (kept : ℕ → Bool)
    → length values ≡ length stacks → IsUnder stacks ends front first end → first ≤ end
    → filter (is_child front) (left_nodes kept (nodes_with stacks values)) ≡ map (node_at stacks values) (filter (λ n. not (kept n)) (children stacks front first (end - first)))
left-children stacks values ends front first end kept many under some =
    picked stacks values front (λ n. not (kept n)) many ∙ ap (λ c. map (node_at stacks values) (filter (λ n. not (kept n)) c)) (children-all stacks ends front first end under some)
