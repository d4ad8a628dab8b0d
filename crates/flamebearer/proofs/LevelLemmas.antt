-- Levels, from the root's on.
use Rattle.std.proofs.Common.{◌≡◌, ℕ, ◌+◌, ◌<◌, ◌≤◌, List, [], ◌∷◌, ◌++◌, length, map, take, get_or, Bool, Some, arith, refl, sym, ap, ◌∙◌, subst, append-nil}
use Rattle.std.specs.Prelude.{codes}
use Rattle.std.specs.List.{All, AllByRecursion, flat_map}
use Rattle.std.proofs.lemmas.List.{map-append, take_more, take_all, length-map, length_push}
use Rattle.std.proofs.lemmas.List.Concat.{flat_map-cons}
use Rattle.std.proofs.lemmas.Grind.{flat_map-append}
use Rattle.std.proofs.lemmas.List.Elements.{All-append, All-cons, All-from_recursion, All-get_or, All-nil, All-push, All-weaker}
use Rattle.std.proofs.lemmas.List.Folds.{flat_map-map}
use Rattle.flamebearer.specs.declared.branches.Value.{Value}
use Rattle.flamebearer.specs.declared.levels.Stands.{Stands}
use Rattle.flamebearer.specs.declared.levels.Stands.TheVariants.{Root, At, Others}
use Rattle.flamebearer.specs.declared.levels.Spot.{Spot}
use Rattle.flamebearer.specs.Pictures.{AreBelow, AreLevels, Shown, below, kept_nodes, left_nodes, root_of}
use Rattle.flamebearer.specs.Sides.{nodes_with}
use Rattle.flamebearer.specs.Trees.{Node}
use Rattle.flamebearer.specs.Spots.{AreStacks, AreWithin, IsGrown, IsNext, IsPlace, IsSpot, below_spot, first_below, has_flag, own_before, shown_at}
use Rattle.flamebearer.proofs.SpanLemmas.{own-all}

-- what a level has for the first so many spots of the level before
pub record IsNextSo (ends : List ℕ) (values : List Value) (kept : List Bool) (level : List Spot) (count : ℕ) (next : List Spot) : Type 0 where
  pub shown : (stacks : List (List (List ℕ))) → AreStacks stacks ends → map (shown_at stacks) next ≡ flat_map (below_spot stacks values kept) (take count level)
  pub spots : (depth : ℕ) → All (IsSpot ends values depth) level → All (IsSpot ends values (depth + 1)) next

pub next-none : (ends : List ℕ) (values : List Value) (kept : List Bool) (level : List Spot) → IsNextSo ends values kept level 0 []
next-none ends values kept level = record { shown = λ stacks are. refl; spots = λ depth all. All-nil (IsSpot ends values (depth + 1)) }

deeper : (ends : List ℕ) (values : List Value) (more less : ℕ) (spots : List Spot) → less ≤ more → AllByRecursion (IsSpot ends values more) spots → AllByRecursion (IsSpot ends values less) spots
deeper ends values more less [] le all = tt
deeper ends values more less (s ∷ ss) le all =
    let is = all.0 in
    let deep = is.deep in
    (record { deep = omega arith; within = is.within; own = is.own; whole = is.whole; inner = is.inner }, deeper ends values more less ss le all.1)

pub next-more : (ends : List ℕ) (values : List Value) (kept : List Bool) (level : List Spot) (count : ℕ) (old new : List Spot) (d : Spot) → count < length level
    → IsNextSo ends values kept level count old → IsGrown ends values kept (get_or level count d) old new → IsNextSo ends values kept level (count + 1) new
next-more ends values kept level count old new d within so grown = record {
  shown = λ stacks are.
      ap (map (shown_at stacks)) grown.items ∙ map-append (shown_at stacks) old grown.added
      ∙ (λ i. so.shown stacks are i ++ grown.shown stacks are i)
      ∙ ap (λ t. flat_map (below_spot stacks values kept) (take count level) ++ t) (sym (flat_map-cons (below_spot stacks values kept) (get_or level count d) [] ∙ append-nil (below_spot stacks values kept (get_or level count d))))
      ∙ sym (flat_map-append (below_spot stacks values kept) (take count level) (get_or level count d ∷ []))
      ∙ ap (flat_map (below_spot stacks values kept)) (sym (take_more level count d within));
  spots = λ depth all.
      let here : IsSpot ends values depth (get_or level count d) = All-get_or (IsSpot ends values depth) level count d within all in
      let deep = here.deep in
      subst (All (IsSpot ends values (depth + 1))) (sym grown.items)
      (All-append (IsSpot ends values (depth + 1)) old grown.added (so.spots depth all)
      (All-from_recursion (IsSpot ends values (depth + 1)) grown.added
      (deeper ends values (first_below ends (get_or level count d).stands + 1) (depth + 1) grown.added (omega arith) grown.spots)));
}

pub next-all : (ends : List ℕ) (values : List Value) (kept : List Bool) (level next : List Spot) (count : ℕ) → IsNextSo ends values kept level count next → length level ≤ count
    → IsNext ends values kept level next
next-all ends values kept level next count so done = record {
  shown = λ stacks are. so.shown stacks are ∙ ap (flat_map (below_spot stacks values kept)) (take_all count level done);
  spots = so.spots;
}

-- ---- all levels

-- levels from the first on, each what stands below the one before, with one more to come
abbrev pub IsChain : (Shown → List Shown) → List Shown → List (List Shown) → List Shown → Type 0
IsChain under first [] last = last ≡ first
IsChain under first (level ∷ more) last = (level ≡ first) × (0 < length level) × IsChain under (flat_map under first) more last

chain-push : (under : Shown → List Shown) (first : List Shown) (levels : List (List Shown)) (last : List Shown) → IsChain under first levels last → 0 < length last
    → IsChain under first (levels ++ last ∷ []) (flat_map under last)
chain-push under first [] last chain some = (chain, some, ap (flat_map under) chain)
chain-push under first (level ∷ more) last chain some = (chain.0, chain.1, chain-push under (flat_map under first) more last chain.2 some)

chain-end : (under : Shown → List Shown) (first : List Shown) (levels : List (List Shown)) → IsChain under (flat_map under first) levels [] → AreBelow under first levels
chain-end under first [] chain = sym chain
chain-end under first (level ∷ more) chain =
    (chain.0, chain.1, subst (λ l. AreBelow under l more) (sym chain.0) (chain-end under (flat_map under first) more chain.2))

AreLevels-from_chain : (is_kept : ℕ → Bool) (nodes : List Node) (levels : List (List Shown))
    → IsChain (below (kept_nodes is_kept nodes) (left_nodes is_kept nodes)) (root_of nodes ∷ []) levels [] → AreLevels is_kept nodes levels
AreLevels-from_chain is_kept nodes [] chain = absurd (let none = ap (length {A = Shown}) chain in omega arith)
AreLevels-from_chain is_kept nodes (level ∷ more) chain = record {
  more = more;
  first = ap (λ l. l ∷ more) chain.0;
  below = chain-end (below (kept_nodes is_kept nodes) (left_nodes is_kept nodes)) (root_of nodes ∷ []) more chain.2;
}

-- where the making of levels stands
pub record AreSoFar (stacks : List (List (List ℕ))) (ends : List ℕ) (values : List Value) (kept : List Bool) (levels : List (List Spot)) (level : List Spot) : Type 0 where
  pub chain : IsChain (below (kept_nodes (has_flag kept) (nodes_with stacks values)) (left_nodes (has_flag kept) (nodes_with stacks values)))
      (root_of (nodes_with stacks values) ∷ []) (map (map (shown_at stacks)) levels) (map (shown_at stacks) level)
  pub spots : All (IsSpot ends values (length levels)) level
  pub within : AreWithin (length ends) levels

is_place : (ends : List ℕ) (values : List Value) (depth : ℕ) (spot : Spot) → IsSpot ends values depth spot → IsPlace (length ends) spot.stands
is_place ends values depth spot is = by spot.stands is.within
  where
    by : (stands : Stands) → first_below ends stands ≤ length ends → IsPlace (length ends) stands
    by Root within = tt
    by (At p) within = omega arith
    by Others within = tt

pub root_spot : (ends : List ℕ) (values : List Value) → length values ≡ length ends
    → IsSpot ends values 0 (record { stands = Root; own = 0; total = own_before values (length values); begin = 0 })
root_spot ends values many =
    let same = ap (own_before values) many in
    record { deep = omega arith; within = omega arith; own = omega arith; whole = omega arith; inner = omega arith }

pub so-far-none : (stacks : List (List (List ℕ))) (ends : List ℕ) (values : List Value) (kept : List Bool) (level : List Spot) → length values ≡ length stacks → length values ≡ length ends
    → level ≡ record { stands = Root; own = 0; total = own_before values (length values); begin = 0 } ∷ [] → AreSoFar stacks ends values kept [] level
so-far-none stacks ends values kept level many size is = record {
  chain = ap (map (shown_at stacks)) is
      ∙ ap (λ n. record { name = codes "total"; stack = Some []; own = 0; total = n; begin = 0 } ∷ []) (sym (own-all stacks values many));
  spots = subst (All (IsSpot ends values 0)) (sym is) (All-cons (IsSpot ends values 0) _ [] (root_spot ends values size) (All-nil (IsSpot ends values 0)));
  within = All-nil (All (λ spot. IsPlace (length ends) spot.stands));
}

pub so-far-more : (stacks : List (List (List ℕ))) (ends : List ℕ) (values : List Value) (kept : List Bool) (levels : List (List Spot)) (level next : List Spot)
    → AreStacks stacks ends → 0 < length level → AreSoFar stacks ends values kept levels level → IsNext ends values kept level next
    → AreSoFar stacks ends values kept (levels ++ level ∷ []) next
so-far-more stacks ends values kept levels level next are some so is =
    let under = below (kept_nodes (has_flag kept) (nodes_with stacks values)) (left_nodes (has_flag kept) (nodes_with stacks values)) in
    let long = length-map level (shown_at stacks) in
    let size = length_push levels level in
    record {
      chain = subst (λ l. IsChain under (root_of (nodes_with stacks values) ∷ []) (map (map (shown_at stacks)) (levels ++ level ∷ [])) l)
          (flat_map-map under (shown_at stacks) level ∙ sym (is.shown stacks are))
          (subst (λ ls. IsChain under (root_of (nodes_with stacks values) ∷ []) ls (flat_map under (map (shown_at stacks) level))) (sym (map-append (map (shown_at stacks)) levels (level ∷ [])))
          (chain-push under (root_of (nodes_with stacks values) ∷ []) (map (map (shown_at stacks)) levels) (map (shown_at stacks) level) so.chain (omega arith)));
      spots = subst (λ n. All (IsSpot ends values n) next) (sym size) (is.spots (length levels) so.spots);
      within = All-push (All (λ spot. IsPlace (length ends) spot.stands)) levels level so.within
          (All-weaker (IsSpot ends values (length levels)) (λ spot. IsPlace (length ends) spot.stands) (is_place ends values (length levels)) level so.spots);
    }

-- a level that isn't empty isn't deeper than there are nodes
pub so-far-deep : (stacks : List (List (List ℕ))) (ends : List ℕ) (values : List Value) (kept : List Bool) (levels : List (List Spot)) (level : List Spot)
    → AreSoFar stacks ends values kept levels level → 0 < length level → length levels ≤ length ends
so-far-deep stacks ends values kept levels level so some =
    let is = so.spots 0 (record { stands = Root; own = 0; total = 0; begin = 0 }) some in
    let deep = is.deep in
    let within = is.within in omega arith

pub so-far-end : (stacks : List (List (List ℕ))) (ends : List ℕ) (values : List Value) (kept : List Bool) (levels : List (List Spot)) (level : List Spot)
    → AreSoFar stacks ends values kept levels level → level ≡ [] → AreLevels (has_flag kept) (nodes_with stacks values) (map (map (shown_at stacks)) levels)
so-far-end stacks ends values kept levels level so none =
    let nodes = nodes_with stacks values in
    AreLevels-from_chain (has_flag kept) nodes (map (map (shown_at stacks)) levels)
    (subst (λ l. IsChain (below (kept_nodes (has_flag kept) nodes) (left_nodes (has_flag kept) nodes)) (root_of nodes ∷ []) (map (map (shown_at stacks)) levels) (map (shown_at stacks) l)) none so.chain)
