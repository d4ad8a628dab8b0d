-- What levels show, whichever nodes are kept.
use Rattle.std.proofs.Common.{◌≡◌, ℕ, zero, suc, ◌+◌, ◌-◌, ◌<◌, ◌≤◌, List, [], ◌∷◌, ◌++◌, length, map, get_or, set, Bool, true, Option, Some, None, arith, refl, sym, ap, ◌∙◌, subst, ⊎_elim}
use Rattle.std.specs.Prelude.{codes, filter, is_some, not, replicate, sum_by}
use Rattle.std.specs.List.{All, AllByRecursion, flat_map, range_with_len}
use Rattle.std.proofs.lemmas.Bool.{cases_lt, lt-ltb}
use Rattle.std.proofs.lemmas.List.{length-replicate}
use Rattle.std.proofs.lemmas.List.Elements.{All-from_recursion}
use Rattle.std.proofs.lemmas.List.Filters.{sum_by-filter_both}
use Rattle.std.proofs.lemmas.List.Sums.{sum_by-append, sum_by-cons, sum_by_push}
use Rattle.flamebearer.specs.declared.branches.Value.{Value}
use Rattle.flamebearer.specs.Ends.{AreEnds, IsEnd}
use Rattle.flamebearer.specs.Laws.{AllAreShown, IsMadeUp, TotalsAreMadeUp}
use Rattle.flamebearer.specs.Pictures.{AreBelow, AreLevels, Shown, below, comes_before, is_child, is_kept, kept_nodes, left_nodes, nodes_at, others, root_of, shown_of, side_by_side}
use Rattle.flamebearer.specs.Sides.{IsSide, nodes_with}
use Rattle.flamebearer.specs.Spots.{AreFramed, AreSpanned, AreStacks, own_before}
use Rattle.flamebearer.specs.Trees.{Node}
use Rattle.flamebearer.proofs.ChildLemmas.{IsUnder, under-node, under-root}
use Rattle.flamebearer.proofs.EndLemmas.{AreDeeper, deeper-none, ends-more, ends-none, is_end}
use Rattle.flamebearer.proofs.GrowLemmas.{next-child, next-children, own-more}
use Rattle.flamebearer.proofs.PlaceLemmas.{all-filter, all-range, children, filter-none, kept-children, left-children, length-nodes, node_at, nodes-at-map}
use Rattle.flamebearer.proofs.RankLemmas.{few-before, not-itself}
use Rattle.flamebearer.proofs.SpanLemmas.{own-all, spanned}

-- ---- all levels

-- what holds of all that stands below holds of all levels but the first
levels-all : (P : Shown → Type 0) (under : Shown → List Shown) → ((x : Shown) → AllByRecursion P (under x)) → (level : List Shown) (more : List (List Shown)) → AreBelow under level more
    → AllByRecursion (All P) more
levels-all P under each level [] below = tt
levels-all P under each level (next ∷ more) below =
    (All-from_recursion P next (subst (AllByRecursion P) (sym below.0) (flat level)), levels-all P under each next more below.2)
  where
    joined : (xs ys : List Shown) → AllByRecursion P xs → AllByRecursion P ys → AllByRecursion P (xs ++ ys)
    joined [] ys a b = b
    joined (x ∷ xs) ys a b = (a.0, joined xs ys a.1 b)

    flat : (level : List Shown) → AllByRecursion P (flat_map under level)
    flat [] = tt
    flat (x ∷ xs) = joined (under x) (flat_map under xs) (each x) (flat xs)

laid-all : (P : Shown → Type 0) (keeps : ℕ → Bool) (nodes : List Node) (levels : List (List Shown)) → AreLevels keeps nodes levels → P (root_of nodes)
    → ((x : Shown) → AllByRecursion P (below (kept_nodes keeps nodes) (left_nodes keeps nodes) x)) → All (All P) levels
laid-all P keeps nodes levels are root each =
    subst (All (All P)) (sym are.first)
    (All-from_recursion (All P) ((root_of nodes ∷ []) ∷ are.more)
    (All-from_recursion P (root_of nodes ∷ []) (root, tt), levels-all P (below (kept_nodes keeps nodes) (left_nodes keeps nodes)) each (root_of nodes ∷ []) are.more are.below))

-- a shown one that begins elsewhere
abbrev moved : ℕ → Shown → Shown
moved begin shown = record { name = shown.name; stack = shown.stack; own = shown.own; total = shown.total; begin = begin }

aside : (P : Shown → Type 0) (start : ℕ) (xs : List Shown) → AllByRecursion (λ x. (begin : ℕ) → P (moved begin x)) xs → AllByRecursion P (side_by_side start xs)
unfolding side_by_side
aside P start [] all = tt
aside P start (x ∷ xs) all = (all.0 start, aside P (start + x.total) xs all.1)

-- ---- where all are kept

-- without nodes that are left, all that stands below has its stack
stacked-below : (kept left : List Node) (x : Shown) → left ≡ [] → AllByRecursion (λ shown. is_some shown.stack ≡ true) (below kept left x)
unfolding below others
stacked-below kept left x none = subst (λ l. AllByRecursion (λ shown. is_some shown.stack ≡ true) (below kept l x)) (sym none) (by x.stack)
  where
    each : (nodes : List Node) → AllByRecursion (λ x. (begin : ℕ) → is_some (moved begin x).stack ≡ true) (map shown_of nodes ++ [])
    each [] = tt
    each (n ∷ ns) = ((λ begin. refl), each ns)

    by : (stack : Option (List (List ℕ))) → AllByRecursion (λ shown. is_some shown.stack ≡ true) (below kept [] (record { name = x.name; stack = stack; own = x.own; total = x.total; begin = x.begin }))
    by None = tt
    by (Some stack) = aside (λ shown. is_some shown.stack ≡ true) (x.begin + x.own) _ (each (filter (is_child stack) kept))

none-left : (weight : ℕ → ℕ) (most : ℕ) (nodes : List Node) → length nodes ≤ most → left_nodes (is_kept weight (length nodes) most) nodes ≡ []
none-left weight most nodes enough =
    ap (nodes_at nodes) (filter-none (λ at. not (is_kept weight (length nodes) most at)) 0 (length nodes) (λ at far near.
    let few = few-before (λ other. comes_before weight other at) (length nodes) at (omega arith) (not-itself weight at) in
    ap not (lt-ltb (length (filter (λ other. comes_before weight other at) (range_with_len 0 (length nodes)))) most (omega arith))))

pub all-shown : AllAreShown
all-shown weight most nodes levels enough are =
    let keeps = is_kept weight (length nodes) most in
    laid-all (λ shown. is_some shown.stack ≡ true) keeps nodes levels are refl
    (λ x. stacked-below (kept_nodes keeps nodes) (left_nodes keeps nodes) x (none-left weight most nodes enough))

-- ---- where what begins with a stack ends

-- one place more that is deeper
deeper-one : (depths : List ℕ) (at end : ℕ) → AreDeeper depths at end → end < length depths → get_or depths at 0 < get_or depths end 0 → AreDeeper depths at (end + 1)
deeper-one depths at end deep within here = record {
  later = let later = deep.later in omega arith;
  within = omega arith;
  deeper = λ n far near. ⊎_elim (λ before. deep.deeper n far before) (λ same. subst (λ m. get_or depths at 0 < get_or depths m 0) (exact n same near) here) (cases_lt n end);
}
  where
    exact : (n : ℕ) → end ≤ n → n < end + 1 → end ≡ n
    exact n a b = omega arith

end-from : (depths : List ℕ) (at fuel end : ℕ) → AreDeeper depths at end → length depths ≤ end + fuel → (found : ℕ) × IsEnd depths at found
end-from depths at zero end deep done = (end, is_end depths at end deep (λ near. absurd (omega arith)))
end-from depths at (suc fuel) end deep done = ⊎_elim
    (λ (near : end < length depths). ⊎_elim
    (λ (more : get_or depths at 0 < get_or depths end 0). end-from depths at fuel (end + 1) (deeper-one depths at end deep near more) (omega arith))
    (λ (stops : get_or depths end 0 ≤ get_or depths at 0). (end, is_end depths at end deep (λ _. stops)))
    (cases_lt (get_or depths at 0) (get_or depths end 0)))
    (λ (past : length depths ≤ end). (end, is_end depths at end deep (λ near. absurd (omega arith))))
    (cases_lt end (length depths))

-- each place has its end
ends-of : (depths : List ℕ) (at : ℕ) (ends : List ℕ) → at ≤ length depths → AreEnds at depths ends → (all : List ℕ) × AreEnds 0 depths all
ends-of depths zero ends within are = (ends, are)
ends-of depths (suc at) ends within are =
    let found = end-from depths at (length depths) (at + 1) (deeper-none depths at (omega arith)) (omega arith) in
    ends-of depths at (set ends at found.0) (omega arith) (ends-more at found.0 depths ends (subst (λ n. AreEnds n depths ends) (one_more at) are) (omega arith) found.1)
  where
    one_more : (n : ℕ) → suc n ≡ n + 1
    one_more n = omega arith

pub ends-are : (stacks : List (List (List ℕ))) → AreFramed stacks → (ends : List ℕ) × AreStacks stacks ends
ends-are stacks framed =
    let depths = map (length {A = List ℕ}) stacks in
    let found = ends-of depths (length depths) (replicate (length depths) 0) (omega arith) (ends-none depths (replicate (length depths) 0) (length-replicate (length depths) 0)) in
    (found.0, record { framed = framed; right = found.1 })

-- ---- totals of children

-- the totals of the children in a range are its own values
children-end : (stacks : List (List (List ℕ))) (values : List Value) (front : List (List ℕ)) (first at end : ℕ) → at ≤ end → end ≤ at
    → sum_by (λ n. (node_at stacks values n).total) (children stacks front first (at - first)) + own_before values first ≡ own_before values at
    → sum_by (λ n. (node_at stacks values n).total) (children stacks front first (end - first)) + own_before values first ≡ own_before values end
children-end stacks values front first at end near past sum =
    subst (λ n. sum_by (λ n. (node_at stacks values n).total) (children stacks front first (n - first)) + own_before values first ≡ own_before values n) (exact at end near past) sum
  where
    exact : (n m : ℕ) → n ≤ m → m ≤ n → n ≡ m
    exact n m a b = omega arith

children-sum : (stacks : List (List (List ℕ))) (ends : List ℕ) (values : List Value) (front : List (List ℕ)) (first end : ℕ) → IsUnder stacks ends front first end → AreSpanned ends values
    → length stacks ≡ length ends → ((n : ℕ) → first ≤ n → n < end → get_or ends n 0 ≤ end) → (at fuel : ℕ) → first ≤ at → at ≤ end → end ≤ at + fuel
    → (at < end → length (get_or stacks at []) ≡ length front + 1)
    → sum_by (λ n. (node_at stacks values n).total) (children stacks front first (at - first)) + own_before values first ≡ own_before values at
    → sum_by (λ n. (node_at stacks values n).total) (children stacks front first (end - first)) + own_before values first ≡ own_before values end
children-sum stacks ends values front first end under spans many nested at zero early near done child sum = children-end stacks values front first at end near (omega arith) sum
children-sum stacks ends values front first end under spans many nested at (suc fuel) early near done child sum = ⊎_elim
    (λ (more : at < end).
    let inner = under.within in
    let later = spans.later at (omega arith) in
    let span = spans.spans at (record { own = 0; total = 0 }) (omega arith) in
    let next = next-children stacks ends front first end at under many early more (child more) in
    let split = ap (sum_by (λ (n : ℕ). (node_at stacks values n).total)) next ∙ sum_by_push (λ (n : ℕ). (node_at stacks values n).total) (children stacks front first (at - first)) at in
    children-sum stacks ends values front first end under spans many nested (get_or ends at 0) fuel (omega arith) (nested at early more) (omega arith)
    (next-child stacks ends front first end at under many early more (child more))
    (omega arith))
    (λ (past : end ≤ at). children-end stacks values front first at end near past sum)
    (cases_lt at end)

children-all-sum : (stacks : List (List (List ℕ))) (ends : List ℕ) (values : List Value) (front : List (List ℕ)) (first end : ℕ) → IsUnder stacks ends front first end → AreSpanned ends values
    → length stacks ≡ length ends → ((n : ℕ) → first ≤ n → n < end → get_or ends n 0 ≤ end) → first ≤ end
    → sum_by (λ n. (node_at stacks values n).total) (children stacks front first (end - first)) + own_before values first ≡ own_before values end
children-all-sum stacks ends values front first end under spans many nested some =
    children-sum stacks ends values front first end under spans many nested first (end - first) (omega arith) some (omega arith) under.starts
    (ap (λ n. sum_by (λ n. (node_at stacks values n).total) (children stacks front first n) + own_before values first) (same first) ∙ none (own_before values first))
  where
    same : (n : ℕ) → n - n ≡ 0
    same n = omega arith

    none : (n : ℕ) → 0 + n ≡ n
    none n = omega arith

-- ---- what stands below, together

sum-map : {X Y : Type 0} (f : Y → ℕ) (g : X → Y) (xs : List X) → sum_by f (map g xs) ≡ sum_by (λ x. f (g x)) xs
sum-map f g [] = refl
sum-map f g (x ∷ xs) = sum_by-cons f (g x) (map g xs) ∙ ap (λ n. f (g x) + n) (sum-map f g xs) ∙ sym (sum_by-cons (λ y. f (g y)) x xs)

sum-aside : (start : ℕ) (xs : List Shown) → sum_by (λ one. one.total) (side_by_side start xs) ≡ sum_by (λ one. one.total) xs
unfolding side_by_side
sum-aside start [] = refl
sum-aside start (x ∷ xs) =
    let one = sum_by-cons (λ (s : Shown). s.total) (moved start x) (side_by_side (start + x.total) xs) in
    let two = sum_by-cons (λ (s : Shown). s.total) x xs in
    let later = sum-aside (start + x.total) xs in omega arith

sum-others : (nodes : List Node) → sum_by (λ one. one.total) (others nodes) ≡ sum_by (λ (node : Node). node.total) nodes
unfolding others
sum-others [] = refl
sum-others (n ∷ ns) =
    let total = sum_by (λ (one : Node). one.total) (n ∷ ns) in
    let one = sum_by-cons (λ (s : Shown). s.total) (record { name = codes "other"; stack = None; own = total; total = total; begin = 0 }) [] in omega arith

-- kept and left children together
sum-below : (stacks : List (List (List ℕ))) (ends : List ℕ) (values : List Value) (keeps : ℕ → Bool) (front : List (List ℕ)) (first end start : ℕ) → length values ≡ length stacks
    → IsUnder stacks ends front first end → first ≤ end
    → sum_by (λ one. one.total) (side_by_side start (map shown_of (filter (is_child front) (kept_nodes keeps (nodes_with stacks values))) ++ others (filter (is_child front) (left_nodes keeps (nodes_with stacks values)))))
    ≡ sum_by (λ n. (node_at stacks values n).total) (children stacks front first (end - first))
sum-below stacks ends values keeps front first end start many under some =
    let total = λ (n : ℕ). (node_at stacks values n).total in
    let all = children stacks front first (end - first) in
    let kept = filter (is_child front) (kept_nodes keeps (nodes_with stacks values)) in
    let left = filter (is_child front) (left_nodes keeps (nodes_with stacks values)) in
    let one : sum_by (λ (s : Shown). s.total) (map shown_of kept) ≡ sum_by total (filter keeps all) =
    sum-map (λ (s : Shown). s.total) shown_of kept
    ∙ ap (sum_by (λ (n : Node). n.total)) (kept-children stacks values ends front first end keeps many under some)
    ∙ sum-map (λ (n : Node). n.total) (node_at stacks values) (filter keeps all) in
    let two : sum_by (λ (s : Shown). s.total) (others left) ≡ sum_by total (filter (λ n. not (keeps n)) all) =
    sum-others left
    ∙ ap (sum_by (λ (n : Node). n.total)) (left-children stacks values ends front first end keeps many under some)
    ∙ sum-map (λ (n : Node). n.total) (node_at stacks values) (filter (λ n. not (keeps n)) all) in
    sum-aside start (map shown_of kept ++ others left)
    ∙ sum_by-append (λ (s : Shown). s.total) (map shown_of kept) (others left)
    ∙ (λ i. one i + two i)
    ∙ sum_by-filter_both keeps (λ n. not (keeps n)) (λ _. refl) total all

root-made-up : (stacks : List (List (List ℕ))) (ends : List ℕ) (values : List Value) (keeps : ℕ → Bool) → AreStacks stacks ends → IsSide stacks values
    → IsMadeUp keeps (nodes_with stacks values) (root_of (nodes_with stacks values))
unfolding below
root-made-up stacks ends values keeps are side =
    let spans = spanned stacks ends values are side in
    let many = spans.many in
    let long = side.many in
    let under = under-root stacks ends are in
    let sum = children-all-sum stacks ends values [] 0 (length ends) under spans (omega arith) (λ n early near. spans.within n near) (omega arith) in
    let below = sum-below stacks ends values keeps [] 0 (length ends) 0 long under (omega arith) in
    let whole = own-all stacks values long in
    let same = ap (own_before values) many in omega arith

node-made-up : (stacks : List (List (List ℕ))) (ends : List ℕ) (values : List Value) (keeps : ℕ → Bool) → AreStacks stacks ends → IsSide stacks values → (p : ℕ) → p < length stacks → (begin : ℕ)
    → IsMadeUp keeps (nodes_with stacks values) (moved begin (shown_of (node_at stacks values p)))
unfolding below
node-made-up stacks ends values keeps are side p within begin =
    let none : Value = record { own = 0; total = 0 } in
    let spans = spanned stacks ends values are side in
    let many = spans.many in
    let long = side.many in
    let under = under-node stacks ends are p within in
    let later = spans.later p (omega arith) in
    let sum = children-all-sum stacks ends values (get_or stacks p []) (p + 1) (get_or ends p 0) under spans (omega arith) (λ n early near. spans.nested p n (omega arith) (omega arith) near) (omega arith) in
    let below = sum-below stacks ends values keeps (get_or stacks p []) (p + 1) (get_or ends p 0) (begin + (node_at stacks values p).own) long under (omega arith) in
    let span = spans.spans p none (omega arith) in
    let more = own-more values p none (omega arith) in omega arith

-- whatever a shown one is, all that stands below it is made up
made-up-below : (stacks : List (List (List ℕ))) (ends : List ℕ) (values : List Value) (keeps : ℕ → Bool) → AreStacks stacks ends → IsSide stacks values → (x : Shown)
    → AllByRecursion (IsMadeUp keeps (nodes_with stacks values)) (below (kept_nodes keeps (nodes_with stacks values)) (left_nodes keeps (nodes_with stacks values)) x)
unfolding below others
made-up-below stacks ends values keeps are side x = by x.stack
  where
    nodes : List Node
    nodes = nodes_with stacks values

    P : Shown → Type 0
    P = IsMadeUp keeps nodes

    joined : (xs ys : List Shown) → AllByRecursion (λ x. (begin : ℕ) → P (moved begin x)) xs → AllByRecursion (λ x. (begin : ℕ) → P (moved begin x)) ys
        → AllByRecursion (λ x. (begin : ℕ) → P (moved begin x)) (xs ++ ys)
    joined [] ys a b = b
    joined (x ∷ xs) ys a b = (a.0, joined xs ys a.1 b)

    each : (places : List ℕ) → AllByRecursion (λ n. n < length stacks) places → AllByRecursion (λ (node : Node). (begin : ℕ) → P (moved begin (shown_of node))) (map (node_at stacks values) places)
    each [] within = tt
    each (n ∷ ns) within = (node-made-up stacks ends values keeps are side n within.0, each ns within.1)

    shown : (ns : List Node) → AllByRecursion (λ (node : Node). (begin : ℕ) → P (moved begin (shown_of node))) ns → AllByRecursion (λ x. (begin : ℕ) → P (moved begin x)) (map shown_of ns)
    shown [] all = tt
    shown (n ∷ ns) all = (all.0, shown ns all.1)

    kept : AllByRecursion (λ (node : Node). (begin : ℕ) → P (moved begin (shown_of node))) (kept_nodes keeps nodes)
    kept =
        let places = filter keeps (range_with_len 0 (length nodes)) in
        let long = length-nodes stacks values side.many in
        let within = all-filter (λ n. n < length stacks) keeps (range_with_len 0 (length nodes)) (all-range (length stacks) 0 (length nodes) (omega arith)) in
        subst (AllByRecursion (λ (node : Node). (begin : ℕ) → P (moved begin (shown_of node)))) (sym (nodes-at-map stacks values places side.many within)) (each places within)

    plus : (n : ℕ) → n + 0 ≡ n
    plus n = omega arith

    rest : (ns : List Node) → AllByRecursion (λ x. (begin : ℕ) → P (moved begin x)) (others ns)
    rest [] = tt
    rest (n ∷ ns) = ((λ begin. plus (sum_by (λ (one : Node). one.total) (n ∷ ns))), tt)

    by : (stack : Option (List (List ℕ))) → AllByRecursion P (below (kept_nodes keeps nodes) (left_nodes keeps nodes) (record { name = x.name; stack = stack; own = x.own; total = x.total; begin = x.begin }))
    by None = tt
    by (Some stack) = aside P (x.begin + x.own) _
        (joined (map shown_of (filter (is_child stack) (kept_nodes keeps nodes))) (others (filter (is_child stack) (left_nodes keeps nodes)))
        (shown (filter (is_child stack) (kept_nodes keeps nodes)) (all-filter (λ (node : Node). (begin : ℕ) → P (moved begin (shown_of node))) (is_child stack) (kept_nodes keeps nodes) kept))
        (rest (filter (is_child stack) (left_nodes keeps nodes))))

pub totals-made-up : TotalsAreMadeUp
totals-made-up keeps nodes levels of are =
    let found = ends-are of.stacks of.framed in
    subst (λ ns. All (All (IsMadeUp keeps ns)) levels) of.are
    (laid-all (IsMadeUp keeps (nodes_with of.stacks of.values)) keeps (nodes_with of.stacks of.values) levels (subst (λ ns. AreLevels keeps ns levels) (sym of.are) are)
    (root-made-up of.stacks found.0 of.values keeps found.1 of.side)
    (made-up-below of.stacks found.0 of.values keeps found.1 of.side))
