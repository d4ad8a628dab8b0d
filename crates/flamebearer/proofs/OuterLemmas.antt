-- That what a kept node's stack begins with is kept.
use Rattle.std.proofs.Common.{◌≡◌, ℕ, ◌<◌, ◌≤◌, List, [], ◌∷◌, length, map, get_or, Bool, true, false, cond, arith, refl, sym, ap, ◌∙◌, ⊎_elim}
use Rattle.std.specs.Prelude.{◌==◌, ◌&&◌, ◌||◌, filter, nat_lt}
use Rattle.std.specs.List.{All, range_with_len}
use Rattle.std.proofs.lemmas.Bool.{and_from, and_parts, cases_lt, eq-eqb, eqb-true, lt-ltb, ltb-true, or_cases, or_left, or_right, true≢false}
use Rattle.std.proofs.lemmas.List.{get_or-map, length-map}
use Rattle.std.proofs.lemmas.List.Elements.{All-tail}
use Rattle.std.proofs.lemmas.List.Sums.{sum_by-cons}
use Rattle.flamebearer.specs.declared.branches.Value.{Value}
use Rattle.flamebearer.specs.Laws.{OuterNodesAreKept}
use Rattle.flamebearer.specs.Pictures.{comes_before, is_kept, weight_at}
use Rattle.flamebearer.specs.Ranks.{total_in, weight_in}
use Rattle.flamebearer.specs.Sides.{IsSide, nodes_with}
use Rattle.flamebearer.specs.Spots.{AreSpanned, AreStacks}
use Rattle.flamebearer.specs.Trees.{begins_with}
use Rattle.flamebearer.proofs.ChildLemmas.{not_after, not_before, steps}
use Rattle.flamebearer.proofs.GrowLemmas.{own-le}
use Rattle.flamebearer.proofs.LawLemmas.{ends-are}
use Rattle.flamebearer.proofs.PictureLemmas.{kept-same, weight-same}
use Rattle.flamebearer.proofs.SpanLemmas.{spanned}

-- more pass a weaker test
filter-le : (p q : ℕ → Bool) (xs : List ℕ) → ((x : ℕ) → p x ≡ true → q x ≡ true) → length (filter p xs) ≤ length (filter q xs)
filter-le p q [] weaker = omega arith
filter-le p q (x ∷ xs) weaker = by (p x) (q x) (weaker x) (filter-le p q xs weaker)
  where
    by : (a b : Bool) → (a ≡ true → b ≡ true) → length (filter p xs) ≤ length (filter q xs)
        → length (cond a (x ∷ filter p xs) (filter p xs)) ≤ length (cond b (x ∷ filter q xs) (filter q xs))
    by true true weaker le = omega arith
    by true false weaker le = absurd (true≢false (sym (weaker refl)))
    by false true weaker le = omega arith
    by false false weaker le = le

-- what comes before an earlier and heavier place comes before this one
before-inner : (weight : ℕ → ℕ) (outer inner other : ℕ) → weight inner ≤ weight outer → outer ≤ inner → comes_before weight other outer ≡ true → comes_before weight other inner ≡ true
before-inner weight outer inner other light early is = by (weight outer) (weight inner) (weight other) light is
  where
    by : (o i n : ℕ) → i ≤ o → (nat_lt o n || ((n == o) && nat_lt other outer)) ≡ true → (nat_lt i n || ((n == i) && nat_lt other inner)) ≡ true
    by o i n light is = ⊎_elim
        (λ over. let more = ltb-true o n over in or_left _ _ (lt-ltb i n (omega arith)))
        (λ both.
        let parts = and_parts (n == o) (nat_lt other outer) both in
        let same = eqb-true n o parts.0 in
        let less = ltb-true other outer parts.1 in
        ⊎_elim
        (λ (more : i < n). or_left _ _ (lt-ltb i n more))
        (λ (least : n ≤ i). or_right _ _ (and_from _ _ (eq-eqb n i (omega arith)) (lt-ltb other inner (omega arith))))
        (cases_lt i n))
        (or_cases (nat_lt o n) ((n == o) && nat_lt other outer) is)

kept-outer : (weight : ℕ → ℕ) (count most outer inner : ℕ) → weight inner ≤ weight outer → outer ≤ inner → is_kept weight count most inner ≡ true → is_kept weight count most outer ≡ true
kept-outer weight count most outer inner light early kept =
    let fewer = filter-le (λ other. comes_before weight other outer) (λ other. comes_before weight other inner) (range_with_len 0 count) (λ other. before-inner weight outer inner other light early) in
    let few = ltb-true (length (filter (λ other. comes_before weight other inner) (range_with_len 0 count))) most kept in
    lt-ltb (length (filter (λ other. comes_before weight other outer) (range_with_len 0 count))) most (omega arith)

-- a place and another within its reach
record IsWithin (ends : List ℕ) (outer inner : ℕ) : Type 0 where
  early : outer ≤ inner
  near : inner < get_or ends outer 0

within : (stacks : List (List (List ℕ))) (ends : List ℕ) (outer inner : ℕ) → AreStacks stacks ends → outer < length stacks → inner < length stacks
    → begins_with (get_or stacks outer []) (get_or stacks inner []) ≡ true → IsWithin ends outer inner
within stacks ends outer inner are here there begins =
    let steps = steps stacks are.framed in
    let long = length-map stacks (length {A = List ℕ}) in
    record {
      early = ⊎_elim (λ (less : inner < outer). absurd (true≢false (sym begins ∙ not_before stacks steps inner outer less here))) (λ (least : outer ≤ inner). least) (cases_lt inner outer);
      near = ⊎_elim
          (λ (less : inner < get_or ends outer 0). less)
          (λ (past : get_or ends outer 0 ≤ inner).
          absurd (true≢false (sym begins ∙ not_after stacks steps outer (get_or ends outer 0) inner (are.right.each outer (omega arith) (omega arith)) here past there)))
          (cases_lt inner (get_or ends outer 0));
    }

total-le : (ends : List ℕ) (values : List Value) (outer inner : ℕ) → AreSpanned ends values → IsWithin ends outer inner → outer < length ends → total_in values inner ≤ total_in values outer
total-le ends values outer inner spans within here =
    let none : Value = record { own = 0; total = 0 } in
    let many = spans.many in
    let early = within.early in
    let near = within.near in
    let inside = spans.within outer here in
    let first = get_or-map (λ (v : Value). v.total) values outer none 0 (omega arith) in
    let second = get_or-map (λ (v : Value). v.total) values inner none 0 (omega arith) in
    let one = spans.spans outer none here in
    let two = spans.spans inner none (omega arith) in
    let low = own-le values outer inner early in
    ⊎_elim
    (λ (less : outer < inner). let high = own-le values (get_or ends inner 0) (get_or ends outer 0) (spans.nested outer inner here less near) in omega arith)
    (λ (least : inner ≤ outer). let same = ap (total_in values) (exact outer inner early least) in omega arith)
    (cases_lt outer inner)
  where
    exact : (n m : ℕ) → n ≤ m → m ≤ n → n ≡ m
    exact n m a b = omega arith

weight-le : (stacks : List (List (List ℕ))) (ends : List ℕ) (sides : List (List Value)) (outer inner : ℕ) → AreStacks stacks ends → All (IsSide stacks) sides → IsWithin ends outer inner
    → outer < length ends → weight_in sides inner ≤ weight_in sides outer
weight-le stacks ends [] outer inner are all within here = omega arith
weight-le stacks ends (s ∷ ss) outer inner are all within here =
    let later = weight-le stacks ends ss outer inner are (All-tail (IsSide stacks) s ss all) within here in
    let first = total-le ends s outer inner (spanned stacks ends s are (all 0 s (omega arith))) within here in
    let one = sum_by-cons (λ (v : List Value). total_in v outer) s ss in
    let two = sum_by-cons (λ (v : List Value). total_in v inner) s ss in omega arith

pub outer-kept : OuterNodesAreKept
outer-kept stacks sides most outer inner framed all here there begins kept =
    let found = ends-are stacks framed in
    let long = length-map stacks (length {A = List ℕ}) in
    let many = found.1.right.many in
    let reach = within stacks found.0 outer inner found.1 here there begins in
    let light = weight-le stacks found.0 sides outer inner found.1 all reach (omega arith) in
    let same = λ (at : ℕ) (inside : at < length stacks). kept-same (weight_in sides) (weight_at (map (nodes_with stacks) sides)) (length stacks) most at (λ n near. weight-same stacks sides n all near) inside in
    sym (same outer here) ∙ kept-outer (weight_in sides) (length stacks) most outer inner light reach.early (same inner there ∙ kept)
