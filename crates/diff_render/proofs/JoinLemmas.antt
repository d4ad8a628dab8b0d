-- Two trees joined, one stack further.
use Rattle.std.proofs.Common.{◌≡◌, ℕ, zero, suc, ◌+◌, ◌-◌, ◌<◌, ◌≤◌, ◌||◌, ◌⊎◌, inl, inr, List, [], ◌∷◌, ◌++◌, length, map, take, drop, get_or, Bool, true, false, arith, refl, sym, ap, ◌∙◌, subst, ⊎_elim}
use Rattle.std.specs.List.{AllByRecursion, list_any}
use Rattle.std.specs.declared.cmp.Ordering.{Ordering}
use Rattle.std.specs.declared.cmp.Ordering.TheVariants.{Less, Equal, Greater}
use Rattle.std.specs.Ordering.{ordering_reverse}
use Rattle.std.proofs.lemmas.Bool.{cases_lt}
use Rattle.std.proofs.lemmas.List.{drop_more, take_all, take_more}
use Rattle.std.proofs.lemmas.List.Folds.{list_any-append}
use Rattle.profile_model.specs.Stacks.{stack_cmp}
use Rattle.profile_model.specs.StackOrder.{stack_eq, stacks_total}
use Rattle.flamebearer.specs.Branches.{stacks_of}
use Rattle.flamebearer.specs.Trees.{Node}
use Rattle.flamebearer.specs.declared.branches.Frame.{Frame}
use Rattle.flamebearer.specs.declared.branches.Value.{Value}
use Rattle.diff_render.specs.Doubles.{has}
use Rattle.diff_render.specs.Joining.{AreUnder, IsHalf, IsJoined, IsWhole, last_of, nodes_in, stack_before}
use Rattle.diff_render.specs.Order.{IsTurn, frames_order}
use Rattle.diff_render.proofs.BranchLemmas.{IsHere, last-push, later_above, length-stacks, next_here, ordered-push, stacks-push}
use Rattle.diff_render.proofs.HalfLemmas.{half_passed, half_taken, under_more}
use Rattle.diff_render.proofs.NodeLemmas.{has-last, length-nodes_with, nodes_with-at, stacks-nodes_with}
use Rattle.diff_render.proofs.OrderLemmas.{frames_ordered, tied_same}

abbrev Stack : Type 0
Stack = List (List ℕ)

abbrev nothing : Value
nothing = record { own = 0; total = 0 }

-- ---- the next node of a tree

-- what is next of a tree: its frame, its value, its stack, and that all later ones are above it
pub record IsNext (frames : List Frame) (values : List Value) (at : ℕ) (path : List (List ℕ)) (frame : Frame) (value : Value) (stack : List (List ℕ)) : Type 0 where
  pub here : IsHere frame path stack
  pub beyond : stack_cmp path stack ≡ Less
  pub taken : take (at + 1) (nodes_in frames values) ≡ take at (nodes_in frames values) ++ record { stack = stack; own = value.own; total = value.total } ∷ []
  pub left : drop at (nodes_in frames values) ≡ record { stack = stack; own = value.own; total = value.total } ∷ drop (at + 1) (nodes_in frames values)
  pub before : stack_before (stacks_of frames) (at + 1) ≡ stack
  pub later : AllByRecursion (λ n. stack_cmp stack n.stack ≡ Less) (drop (at + 1) (nodes_in frames values))

all_stacks : (s : Stack) (nodes : List Node) (n : ℕ) → AllByRecursion (λ q. stack_cmp s q ≡ Less) (drop n (map (λ (m : Node). m.stack) nodes))
    → AllByRecursion (λ m. stack_cmp s m.stack ≡ Less) (drop n nodes)
all_stacks s [] zero all = tt
all_stacks s [] (suc n) all = tt
all_stacks s (m ∷ nodes) zero all = (all.0, all_stacks s nodes zero all.1)
all_stacks s (m ∷ nodes) (suc n) all = all_stacks s nodes n all

before_next : (stacks : List Stack) (at : ℕ) → stack_before stacks (at + 1) ≡ get_or stacks at []
before_next stacks at = ap (stack_before stacks) (one_more at)
  where
    one_more : (n : ℕ) → n + 1 ≡ suc n
    one_more n = omega arith

pub is_next : (frames : List Frame) (values : List Value) (at : ℕ) (stacks : List (List (List ℕ))) (path : List (List ℕ)) (told : List Value) (d : Frame) (e : Value)
    → IsWhole frames values → IsHalf frames values at stacks path told → at < length frames
    → IsNext frames values at path (get_or frames at d) (get_or values at e) (get_or (stacks_of frames) at [])
is_next frames values at stacks path told d e whole half within =
    let all = stacks_of frames in
    let s = get_or all at [] in
    let v = get_or values at e in
    let nodes = nodes_in frames values in
    let n : Node = record { stack = s; own = v.own; total = v.total } in
    let many = length-stacks [] frames in
    let same = whole.side.many in
    let count = length-nodes_with all values whole.side.many in
    let here : get_or nodes at n ≡ n = nodes_with-at all values at n e whole.side.many (omega (arith, many, within)) in
    let rest : drop at nodes ≡ n ∷ drop (at + 1) nodes = drop_more nodes at n (omega (arith, count, many, within)) ∙ ap (λ m. m ∷ drop (at + 1) nodes) here in
    let beyond : stack_cmp path s ≡ Less = (subst (AllByRecursion (λ (m : Node). stack_cmp path m.stack ≡ Less)) rest half.above).0 in
    record {
      here = next_here frames at d path whole.ordered within half.last beyond;
      beyond = beyond;
      taken = take_more nodes at n (omega (arith, count, many, within)) ∙ ap (λ m. take at nodes ++ m ∷ []) here;
      left = rest;
      before = before_next all at;
      later = all_stacks s nodes (at + 1)
          (subst (λ qs. AllByRecursion (λ q. stack_cmp s q ≡ Less) (drop (at + 1) qs)) (sym (stacks-nodes_with all values whole.side.many))
          (later_above all at whole.ordered.ascending (omega (arith, many, within))));
    }

-- ---- one stack more

or_swap : (a b c : Bool) → ((a || b) || c) ≡ ((a || c) || b)
or_swap true b c = refl
or_swap false true true = refl
or_swap false true false = refl
or_swap false false true = refl
or_swap false false false = refl

or_third : (a b c : Bool) → ((a || b) || c) ≡ (a || (b || c))
or_third true b c = refl
or_third false b c = refl

or_both : (a b c : Bool) → ((a || b) || c) ≡ ((a || c) || (b || c))
or_both true b c = refl
or_both false true true = refl
or_both false true false = refl
or_both false false true = refl
or_both false false false = refl

or_none : (b : Bool) → (b || false) ≡ b
or_none true = refl
or_none false = refl

any-push : (stacks : List Stack) (s q : Stack) → list_any (stack_eq q) (stacks ++ s ∷ []) ≡ (list_any (stack_eq q) stacks || stack_eq q s)
any-push stacks s q = list_any-append (stack_eq q) stacks (s ∷ []) ∙ ap (λ b. list_any (stack_eq q) stacks || b) (or_none (stack_eq q s))

-- what all three steps have in common
joined_more : (left : List Frame) (lefts : List Value) (at : ℕ) (right : List Frame) (rights : List Value) (beside : ℕ)
    (next nearby : ℕ) (frames : List Frame) (tl tr : List Value) (frame : Frame) (s : Stack) (lv rv : Value)
    → IsJoined left lefts at right rights beside frames tl tr
    → IsHere frame (last_of (stacks_of frames)) s → stack_cmp (last_of (stacks_of frames)) s ≡ Less
    → ((q : Stack) → ((has (take at (nodes_in left lefts)) q || has (take beside (nodes_in right rights)) q) || stack_eq q s)
    ≡ (has (take next (nodes_in left lefts)) q || has (take nearby (nodes_in right rights)) q))
    → IsHalf left lefts next (stacks_of frames ++ s ∷ []) s (tl ++ lv ∷ [])
    → IsHalf right rights nearby (stacks_of frames ++ s ∷ []) s (tr ++ rv ∷ [])
    → IsJoined left lefts next right rights nearby (frames ++ frame ∷ []) (tl ++ lv ∷ []) (tr ++ rv ∷ [])
joined_more left lefts at right rights beside next nearby frames tl tr frame s lv rv joined here beyond exact of_left of_right =
    let stacks = stacks_of frames in
    let whole : stacks_of (frames ++ frame ∷ []) ≡ stacks ++ s ∷ [] = stacks-push frames frame ∙ ap (λ q. stacks ++ q ∷ []) here.stack_is in
    let last : last_of (stacks_of (frames ++ frame ∷ [])) ≡ s = ap last_of whole ∙ last-push stacks s in
    record {
      ordered = ordered-push frames frame s joined.ordered joined.below here.stack_is beyond here.deep;
      below = subst (λ p. AreUnder p (stacks_of (frames ++ frame ∷ []))) (sym last) (subst (AreUnder s) (sym whole) (under_more (last_of stacks) stacks s joined.below beyond));
      exact = λ q. ap (list_any (stack_eq q)) whole ∙ any-push stacks s q ∙ ap (λ b. b || stack_eq q s) (joined.exact q) ∙ exact q;
      of_left = subst (λ p. IsHalf left lefts next (stacks_of (frames ++ frame ∷ [])) p (tl ++ lv ∷ [])) (sym last)
          (subst (λ qs. IsHalf left lefts next qs s (tl ++ lv ∷ [])) (sym whole) of_left);
      of_right = subst (λ p. IsHalf right rights nearby (stacks_of (frames ++ frame ∷ [])) p (tr ++ rv ∷ [])) (sym last)
          (subst (λ qs. IsHalf right rights nearby qs s (tr ++ rv ∷ [])) (sym whole) of_right);
    }

all_above : (s t : Stack) (nodes : List Node) → stack_cmp s t ≡ Less → AllByRecursion (λ n. stack_cmp t n.stack ≡ Less) nodes → AllByRecursion (λ n. stack_cmp s n.stack ≡ Less) nodes
all_above s t [] less all = tt
all_above s t (n ∷ nodes) less all = (stacks_total.trans s t n.stack less all.0, all_above s t nodes less all.1)

-- nothing of the side is left, or its next stack is above
pub record IsAbove (frames : List Frame) (values : List Value) (at : ℕ) (stack : List (List ℕ)) : Type 0 where
  pub all : AllByRecursion (λ n. stack_cmp stack n.stack ≡ Less) (drop at (nodes_in frames values))

above_next : (frames : List Frame) (values : List Value) (at : ℕ) (path s t : Stack) (frame : Frame) (v : Value)
    → IsNext frames values at path frame v t → stack_cmp s t ≡ Less → IsAbove frames values at s
above_next frames values at path s t frame v next less = record {
  all = subst (AllByRecursion (λ (n : Node). stack_cmp s n.stack ≡ Less)) (sym next.left) (less, all_above s t _ less next.later);
}

drop_none : {X : Type 0} (xs : List X) (n : ℕ) → length xs ≤ n → drop n xs ≡ []
drop_none [] zero few = refl
drop_none [] (suc n) few = refl
drop_none (x ∷ xs) zero few = absurd (omega arith)
drop_none (x ∷ xs) (suc n) few = drop_none xs n (omega arith)

above_end : (frames : List Frame) (values : List Value) (at : ℕ) (s : Stack) → IsWhole frames values → length frames ≤ at → IsAbove frames values at s
above_end frames values at s whole over = record {
  all = subst (AllByRecursion (λ (n : Node). stack_cmp s n.stack ≡ Less))
      (sym (drop_none (nodes_in frames values) at (let count = length-nodes_with (stacks_of frames) values whole.side.many in let many = length-stacks [] frames in omega (arith, count, many, over)))) tt;
}

step_left : (left : List Frame) (lefts : List Value) (at : ℕ) (right : List Frame) (rights : List Value) (beside : ℕ) (frames : List Frame) (tl tr : List Value)
    (frame : Frame) (s : Stack) (v w : Value)
    → IsJoined left lefts at right rights beside frames tl tr → IsNext left lefts at (last_of (stacks_of frames)) frame v s
    → IsAbove right rights beside s → w.own ≡ 0 → w.total ≡ 0
    → IsJoined left lefts (at + 1) right rights beside (frames ++ frame ∷ []) (tl ++ v ∷ []) (tr ++ w ∷ [])
step_left left lefts at right rights beside frames tl tr frame s v w joined next above none nothing =
    let stacks = stacks_of frames in
    let path = last_of stacks in
    joined_more left lefts at right rights beside (at + 1) beside frames tl tr frame s v w joined next.here next.beyond
    (λ q. or_swap (has (take at (nodes_in left lefts)) q) (has (take beside (nodes_in right rights)) q) (stack_eq q s)
    ∙ ap (λ b. b || has (take beside (nodes_in right rights)) q) (sym (has-last (take at (nodes_in left lefts)) _ q) ∙ ap (λ ns. has ns q) (sym next.taken)))
    (half_taken left lefts at stacks path tl s v joined.of_left joined.below next.beyond next.taken next.before next.later)
    (half_passed right rights beside stacks path tr s w joined.of_right next.beyond none nothing above.all)

step_right : (left : List Frame) (lefts : List Value) (at : ℕ) (right : List Frame) (rights : List Value) (beside : ℕ) (frames : List Frame) (tl tr : List Value)
    (frame : Frame) (s : Stack) (v w : Value)
    → IsJoined left lefts at right rights beside frames tl tr → IsNext right rights beside (last_of (stacks_of frames)) frame w s
    → IsAbove left lefts at s → v.own ≡ 0 → v.total ≡ 0
    → IsJoined left lefts at right rights (beside + 1) (frames ++ frame ∷ []) (tl ++ v ∷ []) (tr ++ w ∷ [])
step_right left lefts at right rights beside frames tl tr frame s v w joined next above none nothing =
    let stacks = stacks_of frames in
    let path = last_of stacks in
    joined_more left lefts at right rights beside at (beside + 1) frames tl tr frame s v w joined next.here next.beyond
    (λ q. or_third (has (take at (nodes_in left lefts)) q) (has (take beside (nodes_in right rights)) q) (stack_eq q s)
    ∙ ap (λ b. has (take at (nodes_in left lefts)) q || b) (sym (has-last (take beside (nodes_in right rights)) _ q) ∙ ap (λ ns. has ns q) (sym next.taken)))
    (half_passed left lefts at stacks path tl s v joined.of_left next.beyond none nothing above.all)
    (half_taken right rights beside stacks path tr s w joined.of_right joined.below next.beyond next.taken next.before next.later)

step_both : (left : List Frame) (lefts : List Value) (at : ℕ) (right : List Frame) (rights : List Value) (beside : ℕ) (frames : List Frame) (tl tr : List Value)
    (frame other : Frame) (s : Stack) (v w : Value)
    → IsJoined left lefts at right rights beside frames tl tr → IsNext left lefts at (last_of (stacks_of frames)) frame v s
    → IsNext right rights beside (last_of (stacks_of frames)) other w s
    → IsJoined left lefts (at + 1) right rights (beside + 1) (frames ++ frame ∷ []) (tl ++ v ∷ []) (tr ++ w ∷ [])
step_both left lefts at right rights beside frames tl tr frame other s v w joined next nearby =
    let stacks = stacks_of frames in
    let path = last_of stacks in
    joined_more left lefts at right rights beside (at + 1) (beside + 1) frames tl tr frame s v w joined next.here next.beyond
    (λ q. or_both (has (take at (nodes_in left lefts)) q) (has (take beside (nodes_in right rights)) q) (stack_eq q s)
    ∙ (λ i. (sym (has-last (take at (nodes_in left lefts)) (record { stack = s; own = v.own; total = v.total }) q) ∙ ap (λ ns. has ns q) (sym next.taken)) i
    || (sym (has-last (take beside (nodes_in right rights)) (record { stack = s; own = w.own; total = w.total }) q) ∙ ap (λ ns. has ns q) (sym nearby.taken)) i))
    (half_taken left lefts at stacks path tl s v joined.of_left joined.below next.beyond next.taken next.before next.later)
    (half_taken right rights beside stacks path tr s w joined.of_right joined.below nearby.beyond nearby.taken nearby.before nearby.later)

-- ---- whose turn it is

abbrev no_frame : Frame
no_frame = record { name = []; depth = 0 }

abbrev no_value : Value
no_value = record { own = 0; total = 0 }

-- two next stacks stand as their frames tell
compared : (left : List Frame) (lefts : List Value) (at : ℕ) (right : List Frame) (rights : List Value) (beside : ℕ) (path s t : Stack) (f g : Frame) (v w : Value)
    → IsNext left lefts at path f v s → IsNext right rights beside path g w t → stack_cmp s t ≡ frames_order f g
compared left lefts at right rights beside path s t f g v w next nearby =
    (λ i. stack_cmp (sym next.here.stack_is i) (sym nearby.here.stack_is i))
    ∙ frames_ordered path f g next.here.some nearby.here.some next.here.within nearby.here.within
    (ap (stack_cmp path) next.here.stack_is ∙ next.beyond) (ap (stack_cmp path) nearby.here.stack_is ∙ nearby.beyond)

frames_left : (frames : List Frame) (at : ℕ) → at < length frames → drop at frames ≡ get_or frames at no_frame ∷ drop (at + 1) frames
frames_left frames at within = drop_more frames at no_frame within

both_turn : (left : List Frame) (at : ℕ) (right : List Frame) (beside : ℕ) (turn : Ordering) → at < length left → beside < length right
    → IsTurn (drop at left) (drop beside right) turn → turn ≡ frames_order (get_or left at no_frame) (get_or right beside no_frame)
both_turn left at right beside turn within inside is =
    subst (λ (rest : List Frame). IsTurn (get_or left at no_frame ∷ drop (at + 1) left) rest turn) (frames_left right beside inside)
    (subst (λ (rest : List Frame). IsTurn rest (drop beside right) turn) (frames_left left at within) is)

left_turn : (left : List Frame) (at : ℕ) (right : List Frame) (beside : ℕ) (turn : Ordering) → at < length left → length right ≤ beside
    → IsTurn (drop at left) (drop beside right) turn → turn ≡ Less
left_turn left at right beside turn within over is =
    subst (λ (rest : List Frame). IsTurn (get_or left at no_frame ∷ drop (at + 1) left) rest turn) (drop_none right beside over)
    (subst (λ (rest : List Frame). IsTurn rest (drop beside right) turn) (frames_left left at within) is)

right_turn : (left : List Frame) (at : ℕ) (right : List Frame) (beside : ℕ) (turn : Ordering) → length left ≤ at → beside < length right
    → IsTurn (drop at left) (drop beside right) turn → turn ≡ Greater
right_turn left at right beside turn over inside is =
    subst (λ (rest : List Frame). IsTurn [] rest turn) (frames_left right beside inside)
    (subst (λ (rest : List Frame). IsTurn rest (drop beside right) turn) (drop_none left at over) is)

abbrev IsOther : Ordering → Ordering → Type 0
IsOther Less Less = ⊥
IsOther Equal Equal = ⊥
IsOther Greater Greater = ⊥
IsOther a b = Unit {0}

not_same : (a b : Ordering) → a ≡ b → IsOther a b → ⊥
not_same Less Less is other = other
not_same Less Equal is other = cc
not_same Less Greater is other = cc
not_same Equal Less is other = cc
not_same Equal Equal is other = other
not_same Equal Greater is other = cc
not_same Greater Less is other = cc
not_same Greater Equal is other = cc
not_same Greater Greater is other = other

-- the left's stack is next
pub turned_left : (left : List Frame) (lefts : List Value) (at : ℕ) (right : List Frame) (rights : List Value) (beside : ℕ) (frames : List Frame) (tl tr : List Value)
    → IsWhole left lefts → IsWhole right rights → IsJoined left lefts at right rights beside frames tl tr
    → (at < length left) ⊎ (beside < length right) → IsTurn (drop at left) (drop beside right) Less
    → (at < length left) × IsAbove right rights beside (get_or (stacks_of left) at [])
turned_left left lefts at right rights beside frames tl tr whole entire joined more is = by (cases_lt at (length left)) (cases_lt beside (length right))
  where
    by : (at < length left) ⊎ (length left ≤ at) → (beside < length right) ⊎ (length right ≤ beside) → (at < length left) × IsAbove right rights beside (get_or (stacks_of left) at [])
    by (inl within) (inl inside) =
        let next = is_next left lefts at _ _ tl no_frame no_value whole joined.of_left within in
        let nearby = is_next right rights beside _ _ tr no_frame no_value entire joined.of_right inside in (
          within,
          above_next right rights beside _ _ _ _ _ nearby
              (compared left lefts at right rights beside _ _ _ _ _ _ _ next nearby ∙ sym (both_turn left at right beside Less within inside is)),
        )
    by (inl within) (inr over) = (within, above_end right rights beside _ entire over)
    by (inr over) (inl inside) = absurd (not_same Less Greater (right_turn left at right beside Less over inside is) tt)
    by (inr over) (inr past) = absurd (⊎_elim (λ within. omega (arith, within, over)) (λ inside. omega (arith, inside, past)) more)

-- the right's is
pub turned_right : (left : List Frame) (lefts : List Value) (at : ℕ) (right : List Frame) (rights : List Value) (beside : ℕ) (frames : List Frame) (tl tr : List Value)
    → IsWhole left lefts → IsWhole right rights → IsJoined left lefts at right rights beside frames tl tr
    → (at < length left) ⊎ (beside < length right) → IsTurn (drop at left) (drop beside right) Greater
    → (beside < length right) × IsAbove left lefts at (get_or (stacks_of right) beside [])
turned_right left lefts at right rights beside frames tl tr whole entire joined more is = by (cases_lt at (length left)) (cases_lt beside (length right))
  where
    by : (at < length left) ⊎ (length left ≤ at) → (beside < length right) ⊎ (length right ≤ beside) → (beside < length right) × IsAbove left lefts at (get_or (stacks_of right) beside [])
    by (inl within) (inl inside) =
        let next = is_next left lefts at _ _ tl no_frame no_value whole joined.of_left within in
        let nearby = is_next right rights beside _ _ tr no_frame no_value entire joined.of_right inside in
        let greater = compared left lefts at right rights beside _ _ _ _ _ _ _ next nearby ∙ sym (both_turn left at right beside Greater within inside is) in (
          inside,
          above_next left lefts at _ _ _ _ _ next
              (stacks_total.antisymm (get_or (stacks_of right) beside []) (get_or (stacks_of left) at []) ∙ ap ordering_reverse greater),
        )
    by (inl within) (inr over) = absurd (not_same Greater Less (left_turn left at right beside Greater within over is) tt)
    by (inr over) (inl inside) = (inside, above_end left lefts at _ whole over)
    by (inr over) (inr past) = absurd (⊎_elim (λ within. omega (arith, within, over)) (λ inside. omega (arith, inside, past)) more)

-- both have it
pub turned_both : (left : List Frame) (lefts : List Value) (at : ℕ) (right : List Frame) (rights : List Value) (beside : ℕ) (frames : List Frame) (tl tr : List Value)
    → IsWhole left lefts → IsWhole right rights → IsJoined left lefts at right rights beside frames tl tr
    → (at < length left) ⊎ (beside < length right) → IsTurn (drop at left) (drop beside right) Equal
    → (at < length left) × (beside < length right) × (get_or (stacks_of left) at [] ≡ get_or (stacks_of right) beside [])
turned_both left lefts at right rights beside frames tl tr whole entire joined more is = by (cases_lt at (length left)) (cases_lt beside (length right))
  where
    by : (at < length left) ⊎ (length left ≤ at) → (beside < length right) ⊎ (length right ≤ beside)
        → (at < length left) × (beside < length right) × (get_or (stacks_of left) at [] ≡ get_or (stacks_of right) beside [])
    by (inl within) (inl inside) =
        let next = is_next left lefts at _ _ tl no_frame no_value whole joined.of_left within in
        let nearby = is_next right rights beside _ _ tr no_frame no_value entire joined.of_right inside in
        (within, inside, tied_same (get_or (stacks_of left) at []) (get_or (stacks_of right) beside []) (compared left lefts at right rights beside _ _ _ _ _ _ _ next nearby ∙ sym (both_turn left at right beside Equal within inside is)))
    by (inl within) (inr over) = absurd (not_same Equal Less (left_turn left at right beside Equal within over is) tt)
    by (inr over) (inl inside) = absurd (not_same Equal Greater (right_turn left at right beside Equal over inside is) tt)
    by (inr over) (inr past) = absurd (⊎_elim (λ within. omega (arith, within, over)) (λ inside. omega (arith, inside, past)) more)

-- ---- what is left, as slices have it

length_drop : {X : Type 0} (n : ℕ) (xs : List X) → length (drop n xs) ≡ length xs - n
length_drop zero xs = omega arith
length_drop (suc n) [] = omega arith
length_drop (suc n) (x ∷ xs) = let later = length_drop n xs in omega (arith, later)

rest_is : (xs : List Frame) (n : ℕ) → take (length xs - n) (drop n xs) ≡ drop n xs
rest_is xs n = take_all (length xs - n) (drop n xs) (let same = length_drop n xs in omega (arith, same))

pub turn_rest : (left : List Frame) (at : ℕ) (right : List Frame) (beside : ℕ) (turn other : Ordering)
    → IsTurn (take (length left - at) (drop at left)) (take (length right - beside) (drop beside right)) turn → turn ≡ other
    → IsTurn (drop at left) (drop beside right) other
turn_rest left at right beside turn other is same =
    subst (IsTurn (drop at left) (drop beside right)) same
    (subst (λ (rest : List Frame). IsTurn (drop at left) rest turn) (rest_is right beside)
    (subst (λ (rest : List Frame). IsTurn rest (take (length right - beside) (drop beside right)) turn) (rest_is left at) is))

pub has_value : (frames : List Frame) (values : List Value) (at : ℕ) → IsWhole frames values → at < length frames → at < length values
has_value frames values at whole within = let many = whole.side.many in let same = length-stacks [] frames in omega (arith, many, same, within)

pub joined_left : (left : List Frame) (lefts : List Value) (at : ℕ) (right : List Frame) (rights : List Value) (beside : ℕ) (frames : List Frame) (tl tr : List Value)
    (d : Frame) (e w : Value)
    → IsWhole left lefts → IsWhole right rights → IsJoined left lefts at right rights beside frames tl tr
    → (at < length left) ⊎ (beside < length right) → IsTurn (drop at left) (drop beside right) Less → w.own ≡ 0 → w.total ≡ 0
    → IsJoined left lefts (at + 1) right rights beside (frames ++ get_or left at d ∷ []) (tl ++ get_or lefts at e ∷ []) (tr ++ w ∷ [])
joined_left left lefts at right rights beside frames tl tr d e w whole entire joined more is none nothing =
    let (within, above) = turned_left left lefts at right rights beside frames tl tr whole entire joined more is in
    step_left left lefts at right rights beside frames tl tr _ _ _ w joined
    (is_next left lefts at _ _ tl d e whole joined.of_left within) above none nothing

pub joined_right : (left : List Frame) (lefts : List Value) (at : ℕ) (right : List Frame) (rights : List Value) (beside : ℕ) (frames : List Frame) (tl tr : List Value)
    (d : Frame) (e v : Value)
    → IsWhole left lefts → IsWhole right rights → IsJoined left lefts at right rights beside frames tl tr
    → (at < length left) ⊎ (beside < length right) → IsTurn (drop at left) (drop beside right) Greater → v.own ≡ 0 → v.total ≡ 0
    → IsJoined left lefts at right rights (beside + 1) (frames ++ get_or right beside d ∷ []) (tl ++ v ∷ []) (tr ++ get_or rights beside e ∷ [])
joined_right left lefts at right rights beside frames tl tr d e v whole entire joined more is none nothing =
    let (inside, above) = turned_right left lefts at right rights beside frames tl tr whole entire joined more is in
    step_right left lefts at right rights beside frames tl tr _ _ v _ joined
    (is_next right rights beside _ _ tr d e entire joined.of_right inside) above none nothing

pub joined_both : (left : List Frame) (lefts : List Value) (at : ℕ) (right : List Frame) (rights : List Value) (beside : ℕ) (frames : List Frame) (tl tr : List Value)
    (d : Frame) (e f : Value)
    → IsWhole left lefts → IsWhole right rights → IsJoined left lefts at right rights beside frames tl tr
    → (at < length left) ⊎ (beside < length right) → IsTurn (drop at left) (drop beside right) Equal
    → IsJoined left lefts (at + 1) right rights (beside + 1) (frames ++ get_or left at d ∷ []) (tl ++ get_or lefts at e ∷ []) (tr ++ get_or rights beside f ∷ [])
joined_both left lefts at right rights beside frames tl tr d e f whole entire joined more is =
    let (within, inside, same) = turned_both left lefts at right rights beside frames tl tr whole entire joined more is in
    step_both left lefts at right rights beside frames tl tr _ _ _ _ _ joined
    (is_next left lefts at _ _ tl d e whole joined.of_left within)
    (subst (IsNext right rights beside (last_of (stacks_of frames)) (get_or right beside d) (get_or rights beside f)) (sym same)
    (is_next right rights beside _ _ tr d f entire joined.of_right inside))
