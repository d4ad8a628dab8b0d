-- Rows of numbers, place by place.
use Rattle.std.proofs.Common.{◌≡◌, ℕ, zero, suc, ◌+◌, ◌-◌, ◌<◌, ◌≤◌, List, [], ◌∷◌, ◌++◌, length, map, take, get_or, arith, refl, sym, ap, ◌∙◌, append_assoc, append-nil}
use Rattle.std.specs.Prelude.{fold, max}
use Rattle.std.specs.List.{flat_map, range_with_len}
use Rattle.std.proofs.lemmas.List.{get_or-map, get_or_past, length-map, map-append, take_all}
use Rattle.std.proofs.lemmas.List.Concat.{flat_map-cons}
use Rattle.std.proofs.lemmas.Grind.{flat_map-append}
use Rattle.std.proofs.lemmas.List.Sums.{fold-append}
use Rattle.flamebearer.specs.declared.levels.Spot.{Spot}
use Rattle.flamebearer.specs.declared.levels.Stands.TheVariants.{Root}
use Rattle.flamebearer.specs.Pictures.{Shown, level_of, number_of, row_of, spans_of}
use Rattle.flamebearer.specs.Rows.{all_shown, left_of, numbered_row}
use Rattle.flamebearer.specs.Spots.{name_at, shown_at}
use Rattle.flamebearer.proofs.GatherLemmas.{flat-more, read-view}
use Rattle.flamebearer.proofs.PlaceLemmas.{range-more}

abbrev none : Spot
none = record { stands = Root; own = 0; total = 0; begin = 0 }

abbrev left_from : ℕ → List Spot → ℕ → ℕ
left_from left level zero = left
left_from left level (suc before) = (get_or level before none).begin + (get_or level before none).total

spans-at : (stacks : List (List (List ℕ))) (left : ℕ) (level : List Spot) (at : ℕ) (d : Spot) → at < length level
    → get_or (spans_of left (map (shown_at stacks) level)) at [] ≡ ((get_or level at d).begin - left_from left level at) ∷ (get_or level at d).total ∷ (get_or level at d).own ∷ []
unfolding spans_of
spans-at stacks left [] at d within = absurd (omega arith)
spans-at stacks left (s ∷ ss) zero d within = refl
spans-at stacks left (s ∷ ss) (suc at) d within =
    spans-at stacks (s.begin + s.total) ss at d (omega arith)
    ∙ ap (λ l. ((get_or ss at d).begin - l) ∷ (get_or ss at d).total ∷ (get_or ss at d).own ∷ []) (by at)
  where
    by : (at : ℕ) → left_from (s.begin + s.total) ss at ≡ left_from left (s ∷ ss) (suc at)
    by zero = refl
    by (suc at) = refl

pub span-at : (stacks : List (List (List ℕ))) (level : List Spot) (at : ℕ) (d : Spot) → at < length level
    → get_or (spans_of 0 (map (shown_at stacks) level)) at [] ≡ ((get_or level at d).begin - left_of level at) ∷ (get_or level at d).total ∷ (get_or level at d).own ∷ []
span-at stacks level at d within = spans-at stacks 0 level at d within ∙ ap (λ l. ((get_or level at d).begin - l) ∷ (get_or level at d).total ∷ (get_or level at d).own ∷ []) (by at)
  where
    by : (at : ℕ) → left_from 0 level at ≡ left_of level at
    by zero = refl
    by (suc at) = refl

spans-past : (stacks : List (List (List ℕ))) (left : ℕ) (level : List Spot) (at : ℕ) → length level ≤ at → get_or (spans_of left (map (shown_at stacks) level)) at [] ≡ []
unfolding spans_of
spans-past stacks left [] at past = refl
spans-past stacks left (s ∷ ss) zero past = absurd (omega arith)
spans-past stacks left (s ∷ ss) (suc at) past = spans-past stacks (s.begin + s.total) ss at (omega arith)

pub span-past : (stacks : List (List (List ℕ))) (level : List Spot) (at : ℕ) → length level ≤ at → get_or (spans_of 0 (map (shown_at stacks) level)) at [] ≡ []
span-past stacks level at past = spans-past stacks 0 level at past

-- three numbers more
pub three-more : (row one two three : List ℕ) (a b c : ℕ) → one ≡ row ++ a ∷ [] → two ≡ one ++ b ∷ [] → three ≡ two ++ c ∷ [] → three ≡ row ++ a ∷ b ∷ c ∷ []
three-more row one two three a b c first second third =
    third ∙ ap (λ l. l ++ c ∷ []) (second ∙ ap (λ l. l ++ b ∷ []) first ∙ append_assoc row (a ∷ []) (b ∷ [])) ∙ append_assoc row (a ∷ b ∷ []) (c ∷ [])

pub fold-grow : {X : Type 0} (f : X → List ℕ) (xs : List X) (i : ℕ) (d : X) (x : X) (least before after : ℕ) → i < length xs → before ≡ fold max least (flat_map f (take i xs))
    → x ≡ get_or xs i d → after ≡ fold max before (f x) → after ≡ fold max least (flat_map f (take (i + 1) xs))
fold-grow f xs i d x least before after within so is new =
    new ∙ (λ k. fold max (so k) (f (is k))) ∙ sym (fold-append max least (flat_map f (take i xs)) (f (get_or xs i d))) ∙ ap (fold max least) (sym (flat-more f xs i d within))

-- ---- the spans of all sides

pub at-depth : (stacks : List (List (List ℕ))) (levels : List (List Spot)) (depth : ℕ) → depth < length levels
    → map (shown_at stacks) (get_or levels depth []) ≡ get_or (map (map (shown_at stacks)) levels) depth []
at-depth stacks levels depth within = sym (get_or-map (map (shown_at stacks)) levels depth [] [] within)

pub past-depth : (stacks : List (List (List ℕ))) (levels : List (List Spot)) (depth at : ℕ) → length levels ≤ depth
    → get_or (spans_of 0 (get_or (map (map (shown_at stacks)) levels) depth [])) at [] ≡ []
unfolding spans_of
past-depth stacks levels depth at past =
    let long = length-map levels (map (shown_at stacks)) in
    ap (λ l. get_or (spans_of 0 l) at []) (get_or_past (map (map (shown_at stacks)) levels) depth [] (omega arith))

pub spans-grow : (stacks : List (List (List ℕ))) (sides : List (List (List Spot))) (depth at i : ℕ) (row before after : List ℕ) (levels : List (List Spot)) → i < length sides
    → before ≡ row ++ flat_map (λ side. get_or (spans_of 0 side) at []) (take i (level_of (all_shown stacks sides) depth)) → levels ≡ get_or sides i []
    → after ≡ before ++ get_or (spans_of 0 (get_or (map (map (shown_at stacks)) levels) depth [])) at []
    → after ≡ row ++ flat_map (λ side. get_or (spans_of 0 side) at []) (take (i + 1) (level_of (all_shown stacks sides) depth))
spans-grow stacks sides depth at i row before after levels within so is new =
    let shown = length-map sides (map (map (shown_at stacks))) in
    let deep = length-map (all_shown stacks sides) (λ (levels : List (List Shown)). get_or levels depth []) in
    new ∙ (λ k. so k ++ get_or (spans_of 0 (get_or (map (map (shown_at stacks)) (is k)) depth [])) at [])
    ∙ append_assoc row (flat_map (λ side. get_or (spans_of 0 side) at []) (take i (level_of (all_shown stacks sides) depth))) _
    ∙ ap (λ t. row ++ t)
    (ap (λ side. flat_map (λ side. get_or (spans_of 0 side) at []) (take i (level_of (all_shown stacks sides) depth)) ++ get_or (spans_of 0 side) at [])
    (sym (get_or-map (λ (levels : List (List Shown)). get_or levels depth []) (all_shown stacks sides) i [] [] (omega arith)
    ∙ ap (λ (levels : List (List Shown)). get_or levels depth []) (get_or-map (map (map (shown_at stacks))) sides i [] [] within)))
    ∙ sym (flat-more (λ side. get_or (spans_of 0 side) at []) (level_of (all_shown stacks sides) depth) i [] (omega arith)))

pub spans-end : (stacks : List (List (List ℕ))) (sides : List (List (List Spot))) (depth at i : ℕ) (row after : List ℕ) → length sides ≤ i
    → after ≡ row ++ flat_map (λ side. get_or (spans_of 0 side) at []) (take i (level_of (all_shown stacks sides) depth))
    → after ≡ row ++ flat_map (λ side. get_or (spans_of 0 side) at []) (level_of (all_shown stacks sides) depth)
spans-end stacks sides depth at i row after done so =
    let shown = length-map sides (map (map (shown_at stacks))) in
    let deep = length-map (all_shown stacks sides) (λ (levels : List (List Shown)). get_or levels depth []) in
    so ∙ ap (λ l. row ++ flat_map (λ side. get_or (spans_of 0 side) at []) l) (take_all i (level_of (all_shown stacks sides) depth) (omega arith))

-- ---- a row

pub row-grow : (f : ℕ → List ℕ) (numbers : List ℕ) (at : ℕ) (before mid after : List ℕ) (number : ℕ)
    → before ≡ flat_map (λ at. f at ++ get_or numbers at 0 ∷ []) (range_with_len 0 at) → mid ≡ before ++ f at → number ≡ get_or numbers at 0 → after ≡ mid ++ number ∷ []
    → after ≡ flat_map (λ at. f at ++ get_or numbers at 0 ∷ []) (range_with_len 0 (at + 1))
row-grow f numbers at before mid after number so spans is new =
    new ∙ (λ k. spans k ++ is k ∷ []) ∙ append_assoc before (f at) (get_or numbers at 0 ∷ [])
    ∙ ap (λ l. l ++ (f at ++ get_or numbers at 0 ∷ [])) so
    ∙ ap (λ t. flat_map (λ at. f at ++ get_or numbers at 0 ∷ []) (range_with_len 0 at) ++ t) (sym (flat_map-cons (λ at. f at ++ get_or numbers at 0 ∷ []) at [] ∙ append-nil (f at ++ get_or numbers at 0 ∷ [])))
    ∙ sym (flat_map-append (λ at. f at ++ get_or numbers at 0 ∷ []) (range_with_len 0 at) (at ∷ []))
    ∙ ap (flat_map (λ at. f at ++ get_or numbers at 0 ∷ [])) (sym (range-more at))

flat-same : {Y : Type 0} (f g : ℕ → List Y) (from count : ℕ) → ((n : ℕ) → from ≤ n → n < from + count → f n ≡ g n) → flat_map f (range_with_len from count) ≡ flat_map g (range_with_len from count)
flat-same f g from zero same = refl
flat-same f g from (suc count) same =
    λ i. same from (omega arith) (omega arith) i ++ flat-same f g (from + 1) count (λ n far near. same n (omega arith) (omega arith)) i

pub row-is : (stacks : List (List (List ℕ))) (sides : List (List (List Spot))) (depth : ℕ) (names : List (List ℕ)) (level : List Spot) (numbers : List ℕ) → 0 < length sides → depth < length (get_or sides 0 [])
    → level ≡ get_or (get_or sides 0 []) depth [] → numbers ≡ map (λ spot. number_of names (name_at stacks spot.stands)) level
    → numbered_row (level_of (all_shown stacks sides) depth) numbers ≡ row_of names (level_of (all_shown stacks sides) depth)
unfolding row_of
row-is stacks sides depth names level numbers some within is numbered =
    let shown = get_or (level_of (all_shown stacks sides) depth) 0 [] in
    let sided = length-map sides (map (map (shown_at stacks))) in
    let first : shown ≡ map (shown_at stacks) level =
    get_or-map (λ (levels : List (List Shown)). get_or levels depth []) (all_shown stacks sides) 0 [] [] (omega arith)
    ∙ ap (λ (levels : List (List Shown)). get_or levels depth []) (get_or-map (map (map (shown_at stacks))) sides 0 [] [] some)
    ∙ get_or-map (map (shown_at stacks)) (get_or sides 0 []) depth [] [] within
    ∙ ap (map (shown_at stacks)) (sym is) in
    let long = length-map level (shown_at stacks) in
    let many = length-map level (λ (spot : Spot). number_of names (name_at stacks spot.stands)) in
    let same : length numbers ≡ length shown = ap length numbered ∙ many ∙ sym long ∙ ap length (sym first) in
    let size = ap length first in
    ap (λ n. flat_map (λ at. flat_map (λ side. get_or (spans_of 0 side) at []) (level_of (all_shown stacks sides) depth) ++ get_or numbers at 0 ∷ []) (range_with_len 0 n)) same
    ∙ flat-same
    (λ at. flat_map (λ side. get_or (spans_of 0 side) at []) (level_of (all_shown stacks sides) depth) ++ get_or numbers at 0 ∷ [])
    (λ at. flat_map (λ side. get_or (spans_of 0 side) at []) (level_of (all_shown stacks sides) depth) ++ number_of names (get_or (map (λ one. one.name) shown) at []) ∷ [])
    0 (length shown)
    (λ at far near. ap (λ n. flat_map (λ side. get_or (spans_of 0 side) at []) (level_of (all_shown stacks sides) depth) ++ n ∷ [])
    (ap (λ l. get_or l at 0) numbered
    ∙ get_or-map (λ spot. number_of names (name_at stacks spot.stands)) level at none 0 (omega arith)
    ∙ ap (number_of names) (sym (ap (λ l. get_or (map (λ (one : Shown). one.name) l) at []) first
    ∙ get_or-map (λ (one : Shown). one.name) (map (shown_at stacks) level) at (shown_at stacks none) [] (omega arith)
    ∙ ap (λ (one : Shown). one.name) (get_or-map (shown_at stacks) level at none (shown_at stacks none) (omega arith))))))

-- the level so deep of the first side, as an index reads it
pub level-read : {L X : Type 0} (inner : L → List Spot) (outer : X → List L) (laid : List X) (depth : ℕ) (side : X) (level : L) → 0 < length laid
    → depth < length (get_or (map (λ x. map inner (outer x)) laid) 0 []) → side ≡ get_or laid 0 side → level ≡ get_or (outer side) depth level
    → inner level ≡ get_or (get_or (map (λ x. map inner (outer x)) laid) 0 []) depth []
level-read inner outer laid depth side level some within first is =
    let read = read-view (λ x. map inner (outer x)) laid 0 side [] some first in
    let size = ap length read in
    let long = length-map (outer side) inner in
    read-view inner (outer side) depth level [] (omega arith) is ∙ ap (λ ls. get_or ls depth []) read

pub first-size : {L X : Type 0} (inner : L → List Spot) (outer : X → List L) (laid : List X) (side : X) → 0 < length laid → side ≡ get_or laid 0 side
    → length (outer side) ≡ length (get_or (map (λ x. map inner (outer x)) laid) 0 [])
first-size inner outer laid side some first = sym (length-map (outer side) inner) ∙ ap length (read-view (λ x. map inner (outer x)) laid 0 side [] some first)

pub rows-grow : {R : Type 0} (view : R → List ℕ) (f : ℕ → List ℕ) (before after : List R) (row : R) (depth : ℕ) → map view before ≡ map f (range_with_len 0 depth) → view row ≡ f depth
    → after ≡ before ++ row ∷ [] → map view after ≡ map f (range_with_len 0 (depth + 1))
rows-grow view f before after row depth so is new =
    ap (map view) new ∙ map-append view before (row ∷ []) ∙ (λ k. so k ++ is k ∷ [])
    ∙ sym (map-append f (range_with_len 0 depth) (depth ∷ [])) ∙ ap (map f) (sym (range-more depth))
