-- Pictures, from their parts.
use Rattle.std.proofs.Common.{◌≡◌, ℕ, zero, suc, ◌+◌, ◌<◌, ◌≤◌, List, [], ◌∷◌, ◌++◌, length, map, take, get_or, Bool, false, cond, arith, refl, sym, ap, ◌∙◌, subst}
use Rattle.std.specs.Prelude.{◌==◌, ◌&&◌, ◌||◌, filter, fold, max, nat_eq, nat_lt, not, sum_by}
use Rattle.std.specs.List.{All, flat_map, range_with_len}
use Rattle.std.specs.Cmp.Lexicographic.{pointwise}
use Rattle.std.proofs.lemmas.List.{get_or-map, get_or_default, length-map, length_push, map_push, take_more}
use Rattle.std.proofs.lemmas.List.Elements.{All-get_or, All-map, All-nil, All-push, All-tail}
use Rattle.std.proofs.lemmas.List.Filters.{sum_by-filter_both}
use Rattle.std.proofs.lemmas.List.FromFn.{get_or-map-range_with_len}
use Rattle.std.proofs.lemmas.List.Sums.{sum_by-cons}
use Rattle.flamebearer.specs.declared.branches.Value.{Value}
use Rattle.flamebearer.specs.declared.levels.Spot.{Spot}
use Rattle.flamebearer.specs.Pictures.{AreBelow, AreLaid, AreLevels, IsPicture, Shown, below, comes_before, is_kept, kept_nodes, left_nodes, level_of, nodes_at, root_of, row_of, weight_at}
use Rattle.flamebearer.specs.Ranks.{AreWeights, total_in, weight_in}
use Rattle.flamebearer.specs.Rows.{AreLaidBy, all_shown}
use Rattle.flamebearer.specs.Sides.{IsSide, nodes_with}
use Rattle.flamebearer.specs.Spots.{AreWithin, has_flag, name_at, shown_at}
use Rattle.flamebearer.specs.Trees.{Node, begins_with, firsts}
use Rattle.flamebearer.proofs.PlaceLemmas.{length-nodes, node_at}
use Rattle.flamebearer.proofs.SpanLemmas.{node-get}

-- ---- each side by itself

laid-push : (is_kept : ℕ → Bool) (sides : List (List Node)) (nodes : List Node) (laid : List (List (List Shown))) (levels : List (List Shown)) → AreLaid is_kept sides laid → AreLevels is_kept nodes levels
    → AreLaid is_kept (sides ++ nodes ∷ []) (laid ++ levels ∷ [])
laid-push is_kept [] nodes [] levels are is = (is, tt)
laid-push is_kept [] nodes (l ∷ laid) levels are is = absurd are
laid-push is_kept (s ∷ sides) nodes [] levels are is = absurd are
laid-push is_kept (s ∷ sides) nodes (l ∷ laid) levels are is = (are.0, laid-push is_kept sides nodes laid levels are.1 is)

laid-none : (stacks : List (List (List ℕ))) (kept : List Bool) → AreLaidBy stacks kept [] []
laid-none stacks kept = record { shown = tt; within = All-nil (AreWithin (length stacks)); many = refl }

laid-more : (stacks : List (List (List ℕ))) (kept : List Bool) (sides : List (List Value)) (laid : List (List (List Spot))) (values : List Value) (levels : List (List Spot))
    → AreLaidBy stacks kept sides laid → AreLevels (has_flag kept) (nodes_with stacks values) (map (map (shown_at stacks)) levels) → AreWithin (length stacks) levels
    → AreLaidBy stacks kept (sides ++ values ∷ []) (laid ++ levels ∷ [])
laid-more stacks kept sides laid values levels are is within = record {
  shown = subst (λ s. AreLaid (has_flag kept) s (all_shown stacks (laid ++ levels ∷ []))) (sym (map_push (nodes_with stacks) sides values))
      (subst (AreLaid (has_flag kept) (map (nodes_with stacks) sides ++ nodes_with stacks values ∷ [])) (sym (map_push (map (map (shown_at stacks))) laid levels))
      (laid-push (has_flag kept) (map (nodes_with stacks) sides) (nodes_with stacks values) (all_shown stacks laid) (map (map (shown_at stacks)) levels) are.shown is));
  within = All-push (AreWithin (length stacks)) laid levels are.within within;
  many = length_push laid levels ∙ ap (λ n. n + 1) are.many ∙ sym (length_push sides values);
}

-- ---- weights

node-total : (stacks : List (List (List ℕ))) (values : List Value) (k : ℕ) (d : Value) → length values ≡ length stacks → k < length values → (get_or values k d).total ≡ (node_at stacks values k).total
node-total stacks values k d many within = ap (λ (v : Value). v.total) (get_or_default values k d (record { own = 0; total = 0 }) within)

pub weights : (stacks : List (List (List ℕ))) (values : List Value) → IsSide stacks values → AreWeights (length stacks) values
weights stacks values side = record {
  many = side.many;
  bounded = λ k d within.
      let many = side.many in
      let node = node_at stacks values k in
      let long = length-nodes stacks values many in
      let read = node-get stacks values k node many (omega arith) in
      let test = λ (other : Node). begins_with (get_or stacks k []) other.stack in
      let sum : node.total ≡ sum_by (λ other. other.own) (filter test (nodes_with stacks values)) =
      subst (λ (m : Node). m.total ≡ sum_by (λ other. other.own) (filter (λ other. begins_with m.stack other.stack) (nodes_with stacks values))) read (side.summed k node (omega arith)) in
      let part = sum_by-filter_both test (λ other. not (test other)) (λ _. refl) (λ (n : Node). n.own) (nodes_with stacks values) in
      let bounded = side.bounded in
      let same = node-total stacks values k d many within in omega arith;
}

-- what all sides have at a place, as values and as nodes
pub weight-same : (stacks : List (List (List ℕ))) (sides : List (List Value)) (at : ℕ) → All (IsSide stacks) sides → at < length stacks → weight_in sides at ≡ weight_at (map (nodes_with stacks) sides) at
weight-same stacks [] at are within = refl
weight-same stacks (s ∷ ss) at are within =
    let side = are 0 s (omega arith) in
    let many = side.many in
    let long = length-nodes stacks s many in
    let first : total_in s at ≡ get_or (map (λ (n : Node). n.total) (nodes_with stacks s)) at 0 =
    get_or-map (λ (v : Value). v.total) s at (record { own = 0; total = 0 }) 0 (omega arith)
    ∙ sym (get_or-map (λ (n : Node). n.total) (nodes_with stacks s) at (node_at stacks s at) 0 (omega arith)
    ∙ ap (λ (n : Node). n.total) (node-get stacks s at (node_at stacks s at) many within)) in
    sum_by-cons (λ (v : List Value). total_in v at) s ss
    ∙ (λ i. first i + weight-same stacks ss at (All-tail (IsSide stacks) s ss are) within i)
    ∙ sym (sum_by-cons (λ (ns : List Node). get_or (map (λ (n : Node). n.total) ns) at 0) (nodes_with stacks s) (map (nodes_with stacks) ss))

filter-same : (p q : ℕ → Bool) (from count : ℕ) → ((n : ℕ) → from ≤ n → n < from + count → p n ≡ q n) → filter p (range_with_len from count) ≡ filter q (range_with_len from count)
filter-same p q from zero same = refl
filter-same p q from (suc count) same =
    λ i. cond (same from (omega arith) (omega arith) i) (from ∷ filter-same p q (from + 1) count (λ n far near. same n (omega arith) (omega arith)) i)
    (filter-same p q (from + 1) count (λ n far near. same n (omega arith) (omega arith)) i)

pub kept-same : (w v : ℕ → ℕ) (count most at : ℕ) → ((n : ℕ) → n < count → w n ≡ v n) → at < count → is_kept w count most at ≡ is_kept v count most at
kept-same w v count most at same within =
    ap (λ l. nat_lt (length l) most)
    (filter-same (λ other. comes_before w other at) (λ other. comes_before v other at) 0 count (λ n far near. λ i. before (same n (omega arith) i) (same at within i) n))
  where
    before : ℕ → ℕ → ℕ → Bool
    before a b n = nat_lt b a || ((a == b) && nat_lt n at)

levels-same : (p q : ℕ → Bool) (nodes : List Node) (levels : List (List Shown)) → ((n : ℕ) → n < length nodes → p n ≡ q n) → AreLevels p nodes levels → AreLevels q nodes levels
levels-same p q nodes levels same are =
    let kept : kept_nodes p nodes ≡ kept_nodes q nodes = ap (nodes_at nodes) (filter-same p q 0 (length nodes) (λ n far near. same n (omega arith))) in
    let left : left_nodes p nodes ≡ left_nodes q nodes =
    ap (nodes_at nodes) (filter-same (λ n. not (p n)) (λ n. not (q n)) 0 (length nodes) (λ n far near. ap not (same n (omega arith)))) in
    record {
      more = are.more;
      first = are.first;
      below = subst (λ k. AreBelow (below k (left_nodes q nodes)) (root_of nodes ∷ []) are.more) kept (subst (λ l. AreBelow (below (kept_nodes p nodes) l) (root_of nodes ∷ []) are.more) left are.below);
    }

laid-same : (p q : ℕ → Bool) (count : ℕ) (sides : List (List Node)) (laid : List (List (List Shown))) → All (λ nodes. length nodes ≡ count) sides → ((n : ℕ) → n < count → p n ≡ q n)
    → AreLaid p sides laid → AreLaid q sides laid
laid-same p q count [] [] many same are = tt
laid-same p q count [] (l ∷ laid) many same are = absurd are
laid-same p q count (s ∷ sides) [] many same are = absurd are
laid-same p q count (s ∷ sides) (l ∷ laid) many same are =
    let first = many 0 s (omega arith) in
    (levels-same p q s l (λ n near. same n (omega arith)) are.0, laid-same p q count sides laid (All-tail (λ (nodes : List Node). length nodes ≡ count) s sides many) same are.1)

-- ---- all parts

names-same : (stacks : List (List (List ℕ))) (levels : List (List Spot))
    → flat_map (map (λ spot. name_at stacks spot.stands)) levels ≡ flat_map (map (λ (shown : Shown). shown.name)) (map (map (shown_at stacks)) levels)
names-same stacks [] = refl
names-same stacks (l ∷ ls) = λ i. each l i ++ names-same stacks ls i
  where
    each : (level : List Spot) → map (λ spot. name_at stacks spot.stands) level ≡ map (λ (shown : Shown). shown.name) (map (shown_at stacks) level)
    each [] = refl
    each (s ∷ ss) = ap (λ r. name_at stacks s.stands ∷ r) (each ss)

owns-same : (stacks : List (List (List ℕ))) (levels : List (List Spot)) → flat_map (map (λ (spot : Spot). spot.own)) levels ≡ flat_map (map (λ (shown : Shown). shown.own)) (map (map (shown_at stacks)) levels)
owns-same stacks [] = refl
owns-same stacks (l ∷ ls) = λ i. each l i ++ owns-same stacks ls i
  where
    each : (level : List Spot) → map (λ (spot : Spot). spot.own) level ≡ map (λ (shown : Shown). shown.own) (map (shown_at stacks) level)
    each [] = refl
    each (s ∷ ss) = ap (λ r. s.own ∷ r) (each ss)

all-own-same : (stacks : List (List (List ℕ))) (laid : List (List (List Spot)))
    → flat_map (flat_map (map (λ (spot : Spot). spot.own))) laid ≡ flat_map (λ levels. flat_map (map (λ (shown : Shown). shown.own)) levels) (all_shown stacks laid)
all-own-same stacks [] = refl
all-own-same stacks (l ∷ ls) = λ i. owns-same stacks l i ++ all-own-same stacks ls i

-- what is made of the parts
pub record AreParts (stacks : List (List (List ℕ))) (laid : List (List (List Spot))) (names : List (List ℕ)) (rows : List (List ℕ)) (max_self : ℕ) : Type 0 where
  pub named : names ≡ firsts (pointwise nat_eq) (flat_map (map (λ spot. name_at stacks spot.stands)) (get_or laid 0 []))
  pub rowed : rows ≡ map (λ depth. row_of names (level_of (all_shown stacks laid) depth)) (range_with_len 0 (length (get_or laid 0 [])))
  pub greatest : max_self ≡ fold max 0 (flat_map (flat_map (map (λ spot. spot.own))) laid)

pub picture-is : (stacks : List (List (List ℕ))) (sides : List (List Value)) (most : ℕ) (kept : List Bool) (laid : List (List (List Spot))) (names rows : List (List ℕ)) (max_self : ℕ)
    → 0 < length sides → All (IsSide stacks) sides → kept ≡ map (is_kept (weight_in sides) (length stacks) most) (range_with_len 0 (length stacks))
    → AreLaidBy stacks kept sides laid → AreParts stacks laid names rows max_self
    → IsPicture (map (nodes_with stacks) sides) most (record { names = names; levels = rows; max_self = max_self })
picture-is stacks sides most kept laid names rows max_self some are flags by parts =
    let count = length stacks in
    let many = by.many in
    let first : get_or (all_shown stacks laid) 0 [] ≡ map (map (shown_at stacks)) (get_or laid 0 []) = get_or-map (map (map (shown_at stacks))) laid 0 [] [] (omega arith) in
    let size : length (get_or laid 0 []) ≡ length (get_or (all_shown stacks laid) 0 []) = sym (length-map (get_or laid 0 []) (map (shown_at stacks))) ∙ sym (ap length first) in
    let front : length (get_or (map (nodes_with stacks) sides) 0 []) ≡ count =
    ap length (get_or-map (nodes_with stacks) sides 0 [] [] some) ∙ length-nodes stacks (get_or sides 0 []) (are 0 [] some).many in
    record {
      laid = all_shown stacks laid;
      sided = subst (λ n. AreLaid (is_kept (weight_at (map (nodes_with stacks) sides)) n most) (map (nodes_with stacks) sides) (all_shown stacks laid)) (sym front)
          (laid-same (has_flag kept) (is_kept (weight_at (map (nodes_with stacks) sides)) count most) count (map (nodes_with stacks) sides) (all_shown stacks laid)
          (All-map (λ (nodes : List Node). length nodes ≡ count) (nodes_with stacks) sides (λ k d within. length-nodes stacks (get_or sides k d) (are k d within).many))
          (λ n near.
          ap (λ l. get_or l n false) flags
          ∙ get_or-map-range_with_len (is_kept (weight_in sides) count most) 0 count n n false near (none n)
          ∙ kept-same (weight_in sides) (weight_at (map (nodes_with stacks) sides)) count most n (λ m inner. weight-same stacks sides m are inner) near)
          by.shown);
      names = parts.named ∙ ap (firsts (pointwise nat_eq)) (names-same stacks (get_or laid 0 []) ∙ ap (flat_map (map (λ (shown : Shown). shown.name))) (sym first));
      levels = parts.rowed ∙ ap (λ n. map (λ depth. row_of names (level_of (all_shown stacks laid) depth)) (range_with_len 0 n)) size;
      greatest = parts.greatest ∙ ap (fold max 0) (all-own-same stacks laid);
    }
  where
    none : (n : ℕ) → 0 + n ≡ n
    none n = omega arith

-- ---- side after side

pub laid-step : {X : Type 0} (stacks : List (List (List ℕ))) (kept : List Bool) (view : X → List Value) (xs : List X) (i : ℕ) (d : X) (laid new : List (List (List Spot))) (levels : List (List Spot)) → i < length xs
    → AreLaidBy stacks kept (take i (map view xs)) laid → AreLevels (has_flag kept) (nodes_with stacks (view (get_or xs i d))) (map (map (shown_at stacks)) levels) → AreWithin (length stacks) levels
    → new ≡ laid ++ levels ∷ [] → AreLaidBy stacks kept (take (i + 1) (map view xs)) new
laid-step stacks kept view xs i d laid new levels inner are is within so =
    let long = length-map xs view in
    let more : take (i + 1) (map view xs) ≡ take i (map view xs) ++ view (get_or xs i d) ∷ [] =
    take_more (map view xs) i [] (omega arith) ∙ ap (λ v. take i (map view xs) ++ v ∷ []) (get_or-map view xs i d [] inner) in
    subst (λ s. AreLaidBy stacks kept s new) (sym more)
    (subst (AreLaidBy stacks kept (take i (map view xs) ++ view (get_or xs i d) ∷ [])) (sym so) (laid-more stacks kept (take i (map view xs)) laid (view (get_or xs i d)) levels are is within))

pub first-within : (stacks : List (List (List ℕ))) (kept : List Bool) (sides : List (List Value)) (laid : List (List (List Spot))) → AreLaidBy stacks kept sides laid → 0 < length sides
    → AreWithin (length stacks) (get_or laid 0 [])
first-within stacks kept sides laid by some = let many = by.many in All-get_or (AreWithin (length stacks)) laid 0 [] (omega arith) by.within
