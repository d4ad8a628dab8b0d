-- Two trees joined to their ends.
use Rattle.std.proofs.Common.{◌≡◌, ℕ, zero, suc, ◌+◌, ◌-◌, ◌<◌, ◌≤◌, ◌||◌, inl, List, [], ◌∷◌, ◌++◌, length, map, take, drop, get_or, Bool, true, false, cond, Some, arith, refl, sym, ap, ◌∙◌, subst, ⊎_elim}
use Rattle.std.specs.Prelude.{filter, find, sum_by, unwrap_or}
use Rattle.std.specs.List.{AllByRecursion, list_any}
use Rattle.std.proofs.lemmas.Bool.{true≢false, cases_lt}
use Rattle.std.proofs.lemmas.List.{length-take-le, take_all}
use Rattle.std.proofs.lemmas.List.Elements.{All-from_recursion, recursion_from_All}
use Rattle.std.specs.List.Sorted.{IsStrictlySortedBy}
use Rattle.std.specs.declared.cmp.Ordering.TheVariants.{Less}
use Rattle.profile_model.specs.Stacks.{stack_cmp}
use Rattle.profile_model.specs.StackOrder.{stack_eq}
use Rattle.flamebearer.specs.Branches.{stack_with, stacks_after, stacks_of}
use Rattle.flamebearer.specs.Sides.{IsSide, nodes_with, own_below}
use Rattle.flamebearer.specs.Trees.{Node, begins_with}
use Rattle.flamebearer.specs.declared.branches.Frame.{Frame}
use Rattle.flamebearer.specs.declared.branches.Value.{Value}
use Rattle.flamebearer.proofs.PrefixLemmas.{begun, length_begun, same_stack, stack_same}
use Rattle.diff_render.specs.Doubles.{AreOfBoth, has, node_at}
use Rattle.diff_render.specs.Joining.{IsHalf, IsJoined, IsWhole, nodes_in}
use Rattle.diff_render.proofs.BranchLemmas.{length-stacks}
use Rattle.diff_render.proofs.HalfLemmas.{length-push}
use Rattle.diff_render.proofs.NodeLemmas.{length-nodes_with, stacks-nodes_with}

abbrev Stack : Type 0
Stack = List (List ℕ)

-- ---- a tree's stacks have all that they begin with

-- each non-empty front of the path is found
abbrev IsFound : List Stack → Stack → Type 0
IsFound found path = (n : ℕ) → n < length path → list_any (stack_eq (take (n + 1) path)) found ≡ true

front-of : (m n : ℕ) (xs ys : Stack) → m ≤ n → n ≤ length xs → take m (take n xs ++ ys) ≡ take m xs
front-of zero n xs ys few within = refl
front-of (suc m) zero xs ys few within = absurd (omega arith)
front-of (suc m) (suc n) [] ys few within = absurd (omega arith)
front-of (suc m) (suc n) (x ∷ xs) ys few within = ap (λ rest. x ∷ rest) (front-of m n xs ys (omega arith) (omega arith))

take-whole : (xs : Stack) (n : ℕ) → n ≡ length xs → take n xs ≡ xs
take-whole xs n is = ap (λ m. take m xs) is ∙ all xs
  where
    all : (ys : Stack) → take (length ys) ys ≡ ys
    all [] = refl
    all (y ∷ ys) = ap (λ rest. y ∷ rest) (all ys)

any-push-true : (xs : List Stack) (s q : Stack) → list_any (stack_eq q) xs ≡ true → list_any (stack_eq q) (xs ++ s ∷ []) ≡ true
any-push-true [] s q is = absurd (true≢false (sym is))
any-push-true (x ∷ xs) s q is = by (stack_eq q x) is (any-push-true xs s q)
  where
    by : (b : Bool) → (b || list_any (stack_eq q) xs) ≡ true → (list_any (stack_eq q) xs ≡ true → list_any (stack_eq q) (xs ++ s ∷ []) ≡ true)
        → (b || list_any (stack_eq q) (xs ++ s ∷ [])) ≡ true
    by true is later = refl
    by false is later = later is

any-last : (xs : List Stack) (s q : Stack) → stack_eq q s ≡ true → list_any (stack_eq q) (xs ++ s ∷ []) ≡ true
any-last [] s q is = ap (λ b. b || false) is
any-last (x ∷ xs) s q is = by (stack_eq q x) (any-last xs s q is)
  where
    by : (b : Bool) → list_any (stack_eq q) (xs ++ s ∷ []) ≡ true → (b || list_any (stack_eq q) (xs ++ s ∷ [])) ≡ true
    by true later = refl
    by false later = later

-- behind a stack whose fronts are found, a frame's stack is found with it
found_more : (found : List Stack) (path : Stack) (f : Frame) → f.depth - 1 ≤ length path → 0 < f.depth → IsFound found path
    → IsFound (found ++ stack_with path f ∷ []) (stack_with path f)
found_more found path f within some are = λ n near.
    let parent = take (f.depth - 1) path in
    let held = length-take-le (f.depth - 1) path within in
    let long = length-push parent f.name in
    ⊎_elim
    (λ inner. any-push-true found (stack_with path f) (take (n + 1) (stack_with path f))
    (ap (λ q. list_any (stack_eq q) found) (front-of (n + 1) (f.depth - 1) path (f.name ∷ []) (omega (arith, inner)) within) ∙ are n (omega (arith, inner, within))))
    (λ last. any-last found (stack_with path f) (take (n + 1) (stack_with path f))
    (same_stack (take (n + 1) (stack_with path f)) (stack_with path f) (take-whole (stack_with path f) (n + 1) (omega (arith, near, last, long, held)))))
    (cases_lt n (f.depth - 1))

append-one : (found : List Stack) (s : Stack) (rest : List Stack) → (found ++ s ∷ []) ++ rest ≡ found ++ s ∷ rest
append-one [] s rest = refl
append-one (q ∷ found) s rest = ap (λ r. q ∷ r) (append-one found s rest)

found_any : (found : List Stack) (rest : List Stack) (q : Stack) → list_any (stack_eq q) found ≡ true → list_any (stack_eq q) (found ++ rest) ≡ true
found_any [] rest q is = absurd (true≢false (sym is))
found_any (x ∷ found) rest q is = by (stack_eq q x) is (found_any found rest q)
  where
    by : (b : Bool) → (b || list_any (stack_eq q) found) ≡ true → (list_any (stack_eq q) found ≡ true → list_any (stack_eq q) (found ++ rest) ≡ true)
        → (b || list_any (stack_eq q) (found ++ rest)) ≡ true
    by true is later = refl
    by false is later = later is

-- all fronts of each of the stacks are among them
fronts_found : (found : List Stack) (path : Stack) (frames : List Frame) → IsFound found path → map (λ (g : Frame). g.depth) frames ≡ map length (stacks_after path frames)
    → AllByRecursion (λ t. IsFound (found ++ stacks_after path frames) t) (stacks_after path frames)
fronts_found found path [] are deep = tt
fronts_found found path (f ∷ frames) are deep =
    let s = stack_with path f in
    let parent = take (f.depth - 1) path in
    let first : f.depth ≡ length s = ap (λ ds. get_or ds 0 0) deep in
    let long : f.depth ≡ length parent + 1 = first ∙ length-push parent f.name in
    let few = few-of (f.depth - 1) path in
    let more = found_more found path f (omega (arith, long, few)) (omega (arith, long)) are in (
      (λ n near. ap (list_any (stack_eq (take (n + 1) s))) (sym (append-one found s (stacks_after s frames))) ∙ found_any (found ++ s ∷ []) (stacks_after s frames) (take (n + 1) s) (more n near)),
      subst (λ all. AllByRecursion (λ t. IsFound all t) (stacks_after s frames)) (append-one found s (stacks_after s frames))
          (fronts_found (found ++ s ∷ []) s frames more (ap (drop 1) deep)),
    )
  where
    few-of : (n : ℕ) (xs : Stack) → length (take n xs) ≤ length xs
    few-of zero xs = omega arith
    few-of (suc n) [] = omega arith
    few-of (suc n) (x ∷ xs) = let later = few-of n xs in omega (arith, later)

-- what begins one of a tree's stacks is one of them
begins_found : (stacks : List Stack) (p : Stack) → 0 < length p → (all : List Stack) → AllByRecursion (λ t. IsFound all t) stacks
    → list_any (stack_eq p) all ≡ false → AllByRecursion (λ t. begins_with p t ≡ false) stacks
begins_found [] p some all are none = tt
begins_found (t ∷ stacks) p some all are none = (by (begins_with p t) refl, begins_found stacks p some all are.1 none)
  where
    back : (n : ℕ) → 0 < n → n - 1 + 1 ≡ n
    back n some = omega arith

    by : (b : Bool) → begins_with p t ≡ b → b ≡ false
    by false is = refl
    by true is =
        let within = length_begun p t is in
        let front : take (length p - 1 + 1) t ≡ p = ap (λ n. take n t) (back (length p) some) ∙ begun p t is in
        absurd (true≢false (sym (are.0 (length p - 1) (omega (arith, within, some))) ∙ ap (λ q. list_any (stack_eq q) all) front ∙ none))

-- ---- a tree's nodes

own-none : (p : Stack) (nodes : List Node) → AllByRecursion (λ n. begins_with p n.stack ≡ false) nodes → own_below p nodes ≡ 0
own-none p nodes none = ap (λ ns. sum_by (λ (n : Node). n.own) ns) (filtered nodes none)
  where
    filtered : (ns : List Node) → AllByRecursion (λ n. begins_with p n.stack ≡ false) ns → filter (λ (n : Node). begins_with p n.stack) ns ≡ []
    filtered [] none = refl
    filtered (n ∷ ns) none = ap (λ b. cond b (n ∷ filter (λ (m : Node). begins_with p m.stack) ns) (filter (λ (m : Node). begins_with p m.stack) ns)) none.0 ∙ filtered ns none.1

own-all : (nodes : List Node) → own_below [] nodes ≡ sum_by (λ n. n.own) nodes
own-all nodes = ap (λ ns. sum_by (λ (n : Node). n.own) ns) (all nodes)
  where
    all : (ns : List Node) → filter (λ (n : Node). begins_with [] n.stack) ns ≡ ns
    all [] = refl
    all (n ∷ ns) = ap (λ rest. n ∷ rest) (all ns)

stacks_none : (nodes : List Node) (p : Stack) → AllByRecursion (λ t. begins_with p t ≡ false) (map (λ (n : Node). n.stack) nodes) → AllByRecursion (λ n. begins_with p n.stack ≡ false) nodes
stacks_none [] p none = tt
stacks_none (n ∷ nodes) p none = (none.0, stacks_none nodes p none.1)

has-is : (nodes : List Node) (q : Stack) → has nodes q ≡ list_any (stack_eq q) (map (λ (n : Node). n.stack) nodes)
has-is [] q = refl
has-is (n ∷ nodes) q = ap (λ b. stack_eq q n.stack || b) (has-is nodes q)

-- the total that a side has at a stack stands below it, also where the side hasn't the stack
total-at : (all nodes : List Node) (q : Stack) → AllByRecursion (λ n. n.total ≡ own_below n.stack all) nodes → (has nodes q ≡ false → own_below q all ≡ 0)
    → (node_at nodes q).total ≡ own_below q all
total-at all [] q summed none = sym (none refl)
total-at all (n ∷ nodes) q summed none = by (stack_eq q n.stack) refl (total-at all nodes q summed.1)
  where
    by : (b : Bool) → stack_eq q n.stack ≡ b → ((has nodes q ≡ false → own_below q all ≡ 0) → (node_at nodes q).total ≡ own_below q all)
        → (unwrap_or (cond b (Some n) (find (λ one. stack_eq q one.stack) nodes)) (record { stack = q; own = 0; total = 0 })).total ≡ own_below q all
    by true is later = summed.0 ∙ ap (λ p. own_below p all) (sym (stack_same q n.stack is))
    by false is later = later (λ hasnt. none (ap (λ b. b || has nodes q) is ∙ hasnt))

-- ---- the end

take_end : (frames : List Frame) (values : List Value) → IsWhole frames values → take (length frames) (nodes_in frames values) ≡ nodes_in frames values
take_end frames values whole =
    take_all (length frames) (nodes_in frames values) (let count = length-nodes_with (stacks_of frames) values whole.side.many in let many = length-stacks [] frames in omega (arith, count, many))

pub half_values : (frames : List Frame) (values : List Value) (stacks : List (List (List ℕ))) (path : List (List ℕ)) (told : List Value)
    → IsWhole frames values → IsHalf frames values (length frames) stacks path told → nodes_with stacks told ≡ map (node_at (nodes_in frames values)) stacks
half_values frames values stacks path told whole half = half.here ∙ ap (λ ns. map (node_at ns) stacks) (take_end frames values whole)

pub half_sum : (frames : List Frame) (values : List Value) (stacks : List (List (List ℕ))) (path : List (List ℕ)) (told : List Value)
    → IsWhole frames values → IsHalf frames values (length frames) stacks path told
    → sum_by (λ n. n.own) (map (node_at (nodes_in frames values)) stacks) ≡ sum_by (λ n. n.own) (nodes_in frames values)
half_sum frames values stacks path told whole half =
    ap (λ (ns : List Node). sum_by (λ n. n.own) ns) (sym (half_values frames values stacks path told whole half)) ∙ sym (own-all (nodes_with stacks told))
    ∙ half.below [] ∙ ap (own_below []) (take_end frames values whole) ∙ own-all (nodes_in frames values)

pub half_side : (frames : List Frame) (values : List Value) (stacks : List (List (List ℕ))) (path : List (List ℕ)) (told : List Value)
    → IsWhole frames values → IsHalf frames values (length frames) stacks path told → AllByRecursion (λ q. 0 < length q) stacks → IsSide stacks told
half_side frames values stacks path told whole half some =
    let nodes = nodes_in frames values in
    let here = half_values frames values stacks path told whole half in
    let same : (p : Stack) → own_below p (nodes_with stacks told) ≡ own_below p nodes = λ p. half.below p ∙ ap (own_below p) (take_end frames values whole) in
    record {
      many = half.many;
      summed = All-from_recursion (λ n. n.total ≡ own_below n.stack (nodes_with stacks told)) (nodes_with stacks told)
          (subst (AllByRecursion (λ n. n.total ≡ own_below n.stack (nodes_with stacks told))) (sym here) (each stacks some (λ q. sym (same q))));
      bounded = (let sum = sym (own-all (nodes_with stacks told)) ∙ same [] ∙ own-all nodes in let bounded = whole.side.bounded in omega (arith, sum, bounded));
    }
  where
    summed : AllByRecursion (λ n. n.total ≡ own_below n.stack (nodes_in frames values)) (nodes_in frames values)
    summed = recursion_from_All (λ n. n.total ≡ own_below n.stack (nodes_in frames values)) (nodes_in frames values) whole.side.summed

    none : (q : Stack) → 0 < length q → has (nodes_in frames values) q ≡ false → own_below q (nodes_in frames values) ≡ 0
    none q some hasnt =
        let stacks_are = stacks-nodes_with (stacks_of frames) values whole.side.many in
        let lacks : list_any (stack_eq q) (stacks_of frames) ≡ false = ap (list_any (stack_eq q)) (sym stacks_are) ∙ sym (has-is (nodes_in frames values) q) ∙ hasnt in
        own-none q (nodes_in frames values) (stacks_none (nodes_in frames values) q (subst (AllByRecursion (λ t. begins_with q t ≡ false)) (sym stacks_are)
        (begins_found (stacks_of frames) q some (stacks_of frames) (fronts_found [] [] frames (λ n near. absurd (omega (arith, near))) whole.ordered.deep) lacks)))

    stack-of : (q : Stack) → (node_at (nodes_in frames values) q).stack ≡ q
    stack-of q = found_stack (nodes_in frames values)
      where
        found_stack : (ns : List Node) → (node_at ns q).stack ≡ q
        found_stack [] = refl
        found_stack (n ∷ ns) = by (stack_eq q n.stack) refl (found_stack ns)
          where
            by : (b : Bool) → stack_eq q n.stack ≡ b → (node_at ns q).stack ≡ q
                → (unwrap_or (cond b (Some n) (find (λ one. stack_eq q one.stack) ns)) (record { stack = q; own = 0; total = 0 })).stack ≡ q
            by true is later = sym (stack_same q n.stack is)
            by false is later = later

    each : (qs : List Stack) → AllByRecursion (λ q. 0 < length q) qs → ((q : Stack) → own_below q (nodes_in frames values) ≡ own_below q (nodes_with stacks told))
        → AllByRecursion (λ n. n.total ≡ own_below n.stack (nodes_with stacks told)) (map (node_at (nodes_in frames values)) qs)
    each [] some same = tt
    each (q ∷ qs) some same = (
      total-at (nodes_in frames values) (nodes_in frames values) q summed (none q some.0) ∙ same q ∙ ap (λ p. own_below p (nodes_with stacks told)) (sym (stack-of q)),
      each qs some.1 same,
    )

some-of : (path : Stack) (frames : List Frame) → AllByRecursion (λ q. 0 < length q) (stacks_after path frames)
some-of path [] = tt
some-of path (f ∷ frames) = ((let long = length-push (take (f.depth - 1) path) f.name in omega (arith, long)), some-of (stack_with path f) frames)

pub all_some : (frames : List Frame) → AllByRecursion (λ q. 0 < length q) (stacks_of frames)
all_some frames = some-of [] frames

pub of_both : (left : List Frame) (lefts : List Value) (right : List Frame) (rights : List Value) (frames : List Frame) (tl tr : List Value)
    → IsWhole left lefts → IsWhole right rights → IsJoined left lefts (length left) right rights (length right) frames tl tr
    → AreOfBoth (nodes_in left lefts) (nodes_in right rights) (stacks_of frames)
of_both left lefts right rights frames tl tr whole entire joined = record {
  ascending = joined.ordered.ascending;
  exact = λ q. joined.exact q ∙ (λ i. has (take_end left lefts whole i) q || has (take_end right rights entire i) q);
}

-- ---- the beginning

all_above : (stacks : List Stack) (values : List Value) → AllByRecursion (λ q. 0 < length q) stacks → AllByRecursion (λ n. stack_cmp [] n.stack ≡ Less) (nodes_with stacks values)
all_above [] values some = tt
all_above (s ∷ stacks) [] some = tt
all_above (s ∷ stacks) (v ∷ values) some = (first s some.0, all_above stacks values some.1)
  where
    first : (s : Stack) → 0 < length s → stack_cmp [] s ≡ Less
    first [] some = absurd (omega (arith, some))
    first (x ∷ s) some = refl

half_none : (frames : List Frame) (values : List Value) → IsHalf frames values 0 [] [] []
half_none frames values = record {
  many = refl;
  here = refl;
  below = λ p. refl;
  last = inl refl;
  old = tt;
  above = all_above (stacks_of frames) values (all_some frames);
}

pub joined_none : (left : List Frame) (lefts : List Value) (right : List Frame) (rights : List Value) → IsJoined left lefts 0 right rights 0 [] [] []
unfolding IsStrictlySortedBy
joined_none left lefts right rights = record {
  ordered = record { deep = refl; ascending = tt };
  below = tt;
  exact = λ q. refl;
  of_left = half_none left lefts;
  of_right = half_none right rights;
}
