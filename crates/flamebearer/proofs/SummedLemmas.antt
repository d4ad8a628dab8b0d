-- That a node's total is what all nodes beginning with its stack have of their own.
use Rattle.std.proofs.Common.{◌≡◌, ℕ, zero, suc, ◌+◌, ◌-◌, ◌<◌, List, [], ◌∷◌, ◌++◌, length, map, take, Bool, true, false, cond, arith, refl, sym, ap, ◌∙◌, subst}
use Rattle.std.specs.Prelude.{sum_by, filter, if◌then◌else◌}
use Rattle.std.specs.List.{AllByRecursion}
use Rattle.std.proofs.lemmas.List.Elements.{All-from_recursion}
use Rattle.std.proofs.lemmas.List.Sums.{sum_by-cons}
use Rattle.profile_model.specs.Sums.{Sample, total_of}
use Rattle.flamebearer.specs.Trees.{Node, begins_with, beginning_with, node_of, tree_of}
use Rattle.flamebearer.specs.Sides.{AreSummed, own_below}
use Rattle.flamebearer.specs.Pushes.{fresh, fronts, grown}
use Rattle.flamebearer.proofs.FirstLemmas.{found_of}
use Rattle.flamebearer.proofs.NodeLemmas.{own-last, own-more}

plus : (n : ℕ) → n ≡ 0 + n
plus n = omega arith

pub own_below-cons : (p : List (List ℕ)) (node : Node) (nodes : List Node)
    → own_below p (node ∷ nodes) ≡ (if begins_with p node.stack then node.own else 0) + own_below p nodes
own_below-cons p node nodes = by (begins_with p node.stack) (sum_by-cons (λ (n : Node). n.own) node (filter (λ other. begins_with p other.stack) nodes))
  where
    by : (b : Bool) → sum_by (λ (n : Node). n.own) (node ∷ filter (λ (other : Node). begins_with p other.stack) nodes) ≡ node.own + own_below p nodes
        → sum_by (λ (n : Node). n.own) (cond b (node ∷ filter (λ (other : Node). begins_with p other.stack) nodes) (filter (λ (other : Node). begins_with p other.stack) nodes))
        ≡ cond b node.own 0 + own_below p nodes
    by true whole = whole
    by false whole = plus (own_below p nodes)

pub own_below-append : (p : List (List ℕ)) (xs ys : List Node) → own_below p (xs ++ ys) ≡ own_below p xs + own_below p ys
own_below-append p [] ys = plus (own_below p ys)
own_below-append p (x ∷ xs) ys =
    let whole = own_below-cons p x (xs ++ ys) in
    let front = own_below-cons p x xs in
    let later = own_below-append p xs ys in omega arith

own_below-grown : (p : List (List ℕ)) (count : ℕ) (stack : List (List ℕ)) (value : ℕ) (nodes : List Node) → own_below p (map (grown count stack value) nodes) ≡ own_below p nodes
unfolding grown
own_below-grown p count stack value [] = refl
own_below-grown p count stack value (node ∷ nodes) =
    let new = own_below-cons p (grown count stack value node) (map (grown count stack value) nodes) in
    let old = own_below-cons p node nodes in
    let later = own_below-grown p count stack value nodes in omega arith

nothing : (b : Bool) (n : ℕ) → n ≡ 0 → (if b then n else 0) ≡ 0
nothing true n none = none
nothing false n none = refl

whole_stack : (stack : List (List ℕ)) (n : ℕ) → n ≡ length stack → take n stack ≡ stack
whole_stack stack n is = ap (λ m. take m stack) is ∙ all stack
  where
    all : (xs : List (List ℕ)) → take (length xs) xs ≡ xs
    all [] = refl
    all (x ∷ xs) = ap (λ rest. x ∷ rest) (all xs)

own_below-fresh : (p stack : List (List ℕ)) (value from count : ℕ) → from + suc count ≡ length stack
    → own_below p (map (fresh stack value) (fronts stack from (suc count))) ≡ (if begins_with p stack then value else 0)
unfolding fresh
own_below-fresh p stack value from zero long =
    own_below-cons p (fresh stack value (take (from + 1) stack)) []
    ∙ ap (λ own. (if begins_with p (take (from + 1) stack) then own else 0) + 0) (sym (own-last stack from value (omega arith)))
    ∙ ap (λ s. (if begins_with p s then value else 0) + 0) (whole_stack stack (from + 1) (omega arith))
    ∙ no_more (if begins_with p stack then value else 0)
  where
    no_more : (n : ℕ) → n + 0 ≡ n
    no_more n = omega arith
own_below-fresh p stack value from (suc count) long =
    let first = fresh stack value (take (from + 1) stack) in
    let rest = map (fresh stack value) (fronts stack (from + 1) (suc count)) in
    let more = own_below-cons p first rest in
    let none = nothing (begins_with p (take (from + 1) stack)) first.own (sym (own-more stack from value (omega arith) (λ same. absurd (omega arith)))) in
    let later = own_below-fresh p stack value (from + 1) count (omega arith) in omega arith

-- a stack more
pub own_below-push : (p : List (List ℕ)) (c : ℕ) (stack : List (List ℕ)) (value : ℕ) (old new : List Node)
    → new ≡ map (grown c stack value) old ++ map (fresh stack value) (fronts stack c (length stack - c)) → c < length stack
    → own_below p new ≡ own_below p old + (if begins_with p stack then value else 0)
own_below-push p c stack value old new is short =
    ap (own_below p) is
    ∙ own_below-append p (map (grown c stack value) old) (map (fresh stack value) (fronts stack c (length stack - c)))
    ∙ (λ i. own_below-grown p c stack value old i + rest i)
  where
    back : (c n : ℕ) → c < n → n - c ≡ suc (n - c - 1)
    back c n short = omega arith

    rest : own_below p (map (fresh stack value) (fronts stack c (length stack - c))) ≡ (if begins_with p stack then value else 0)
    rest = ap (λ n. own_below p (map (fresh stack value) (fronts stack c n))) (back c (length stack) short) ∙ own_below-fresh p stack value c (length stack - c - 1) (omega arith)

-- nodes of a tree, where what begins with a stack has the values of the samples that do
pub summed : (samples : List Sample) (nodes : List Node) → nodes ≡ tree_of samples
    → ((p : List (List ℕ)) → own_below p nodes ≡ total_of (beginning_with p samples)) → AreSummed nodes
unfolding tree_of node_of
summed samples nodes is below =
    All-from_recursion (λ node. node.total ≡ own_below node.stack nodes) nodes
    (subst (AllByRecursion (λ node. node.total ≡ own_below node.stack nodes)) (sym is) (each (found_of samples)))
  where
    each : (found : List (List (List ℕ))) → AllByRecursion (λ node. node.total ≡ own_below node.stack nodes) (map (node_of samples) found)
    each [] = tt
    each (s ∷ found) = (sym (below s), each found)
