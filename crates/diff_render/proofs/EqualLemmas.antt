-- One tree on both sides.
use Rattle.std.proofs.Common.{◌≡◌, ℕ, zero, suc, ◌+◌, ◌-◌, ◌<◌, ◌≤◌, List, [], ◌∷◌, ◌++◌, length, map, get_or, Bool, arith, refl, sym, ap, ◌∙◌, subst}
use Rattle.std.specs.List.{All, flat_map, range_with_len}
use Rattle.std.proofs.lemmas.List.Elements.{All-map}
use Rattle.flamebearer.specs.Pictures.{AreBelow, AreLaid, AreLevels, Shown, below, kept_nodes, left_nodes, level_of, number_of, root_of, row_of, spans_of}
use Rattle.flamebearer.specs.Trees.{Node}
use Rattle.diff_render.specs.Laws.{AreAlike, EqualLevels, EqualTicks}

-- ---- a side's levels are given by its nodes

below_once : (under : Shown → List Shown) (level : List Shown) (more other : List (List Shown)) → AreBelow under level more → AreBelow under level other → more ≡ other
below_once under level [] [] first second = refl
below_once under level [] (next ∷ other) first second =
    absurd (let none = ap (length {A = Shown}) (second.0 ∙ first) in let some = second.1 in omega (arith, none, some))
below_once under level (next ∷ more) [] first second =
    absurd (let none = ap (length {A = Shown}) (first.0 ∙ second) in let some = first.1 in omega (arith, none, some))
below_once under level (next ∷ more) (later ∷ other) first second =
    let same : next ≡ later = first.0 ∙ sym second.0 in
    λ i. same i ∷ below_once under next more other first.2 (subst (λ l. AreBelow under l other) (sym same) second.2) i

levels_once : (keeps : ℕ → Bool) (nodes : List Node) (levels other : List (List Shown)) → AreLevels keeps nodes levels → AreLevels keeps nodes other → levels ≡ other
levels_once keeps nodes levels other first second =
    first.first
    ∙ ap (λ more. (root_of nodes ∷ []) ∷ more)
    (below_once (below (kept_nodes keeps nodes) (left_nodes keeps nodes)) (root_of nodes ∷ []) first.more second.more first.below second.below)
    ∙ sym second.first

-- levels, twice
record AreTwice (laid : List (List (List Shown))) : Type 0 where
  pub levels : List (List Shown)
  pub are : laid ≡ levels ∷ levels ∷ []

laid_twice : (keeps : ℕ → Bool) (nodes : List Node) (laid : List (List (List Shown))) → AreLaid keeps (nodes ∷ nodes ∷ []) laid → AreTwice laid
laid_twice keeps nodes [] are = absurd are
laid_twice keeps nodes (levels ∷ []) are = absurd are.1
laid_twice keeps nodes (levels ∷ other ∷ []) are =
    record { levels = levels; are = ap (λ l. levels ∷ l ∷ []) (levels_once keeps nodes other levels are.1.0 are.0) }
laid_twice keeps nodes (levels ∷ other ∷ third ∷ laid) are = absurd are.1.1

-- ---- numbers of one level, twice

record AreThree (numbers : List ℕ) : Type 0 where
  pub begin : ℕ
  pub total : ℕ
  pub own : ℕ
  pub are : numbers ≡ begin ∷ total ∷ own ∷ []

three_at : (left : ℕ) (side : List Shown) (at : ℕ) → at < length side → AreThree (get_or (spans_of left side) at [])
unfolding spans_of
three_at left [] at within = absurd (omega arith)
three_at left (shown ∷ side) zero within = record { begin = shown.begin - left; total = shown.total; own = shown.own; are = refl }
three_at left (shown ∷ side) (suc at) within = three_at (shown.begin + shown.total) side at (omega arith)

alike_more : (three : List ℕ) (name : ℕ) (more : List ℕ) → AreThree three → AreAlike more → AreAlike (((three ++ (three ++ [])) ++ name ∷ []) ++ more)
alike_more three name more are alike =
    subst (λ l. AreAlike (((l ++ (l ++ [])) ++ name ∷ []) ++ more)) (sym are.are) (refl, refl, refl, alike)

places_alike : (names : List (List ℕ)) (side : List Shown) (from count : ℕ) → from + count ≤ length side
    → AreAlike (flat_map (λ at. flat_map (λ side. get_or (spans_of 0 side) at []) (side ∷ side ∷ []) ++ number_of names (get_or (map (λ one. one.name) side) at []) ∷ []) (range_with_len from count))
places_alike names side from zero within = tt
places_alike names side from (suc count) within =
    alike_more (get_or (spans_of 0 side) from []) (number_of names (get_or (map (λ (one : Shown). one.name) side) from [])) _
    (three_at 0 side from (omega arith)) (places_alike names side (from + 1) count (omega arith))

row_alike : (names : List (List ℕ)) (side : List Shown) → AreAlike (row_of names (side ∷ side ∷ []))
unfolding row_of
row_alike names side = places_alike names side 0 (length side) (omega arith)

-- ---- the law

pub equal_levels : EqualLevels
equal_levels nodes most flame double =
    let picture = double.picture in
    let twice = laid_twice _ _ picture.laid picture.sided in
    let depths = range_with_len 0 (length (get_or picture.laid 0 [])) in
    subst (All AreAlike)
    (sym (picture.levels ∙ ap (λ laid. map (λ depth. row_of flame.names (level_of laid depth)) depths) twice.are))
    (All-map AreAlike (λ depth. row_of flame.names (level_of (twice.levels ∷ twice.levels ∷ []) depth)) depths
    (λ at d within. row_alike flame.names (get_or twice.levels (get_or depths at d) [])))

pub equal_ticks : EqualTicks
equal_ticks nodes most flame double = double.left_ticks ∙ sym double.right_ticks
