-- Places by their weights, and which of them are kept.
use Rattle.std.proofs.Common.{◌≡◌, ℕ, zero, suc, ◌+◌, ◌-◌, ◌^◌, ◌<◌, ◌≤◌, ◌⊎◌, List, [], ◌∷◌, ◌++◌, length, map, take, get_or, set, Bool, true, false, cond, arith, refl, sym, ap, ◌∙◌, subst, ⊎_elim}
use Rattle.std.specs.Prelude.{◌==◌, ◌&&◌, ◌||◌, filter, nat_eq, nat_lt, replicate, sum_by}
use Rattle.std.specs.List.{All, IsDistinct, list_any, range_with_len}
use Rattle.std.specs.List.Sorted.{IsPermutation, IsSortedBy}
use Rattle.std.specs.Cmp.{IsStrictWeakOrder}
use Rattle.std.specs.Ordering.{eq_by_cmp, is_lt, nat_cmp, ordering_then}
use Rattle.std.specs.declared.cmp.Ordering.TheVariants.{Less, Equal, Greater}
use Rattle.std.proofs.lemmas.Bool.{and_from, and_left, and_parts, and_right, cases_eq, cases_lt, cases_order, eq-eqb, eqb-true, false_from_ne_true, le-ltb, lt-ltb, ltb-true, ne_eqb, or_cases, or_from, or_left, or_right, true≢false}
use Rattle.std.proofs.lemmas.Cmp.{back_total, eq_by_cmp_equiv, nat_cmp_total, on_total, then_total}
use Rattle.std.proofs.lemmas.List.{ext_get_or, get_or-map, length-append, get_or-replicate, get_or-set_other, get_or-set_same, get_or-take, get_or_default, length-map, length-replicate, length-set, length-take, take_all, take_more}
use Rattle.std.proofs.lemmas.List.Elements.{All-from_recursion, filter-append}
use Rattle.std.proofs.lemmas.List.Folds.{Any-from_list_any, list_any_at, list_any_more}
use Rattle.std.proofs.lemmas.List.FromFn.{get_or-map-range_with_len, get_or-range_with_len, length-map-range_with_len, length-range_with_len}
use Rattle.std.proofs.lemmas.List.MinMax.{ranks_by}
use Rattle.std.proofs.lemmas.List.Sorted.{All-permutation, Contains-permutation, IsPermutation-map, length_permutation, sorted_far, sum_by-IsPermutation}
use Rattle.std.proofs.lemmas.List.Sums.{count_by-le-length, length-filter, sum_by_push}
use Rattle.std.proofs.lemmas.Map.Keys.{IsDistinct-IsPermutation, IsDistinct-from_sorted, IsDistinct-head, IsDistinct-tail, sorted_from_strictly_increasing}
use Rattle.flamebearer.specs.Pictures.{comes_before, is_kept}
use Rattle.flamebearer.proofs.PlaceLemmas.{all-range, range-split}
use Rattle.flamebearer.specs.declared.branches.Value.{Value}
use Rattle.flamebearer.specs.Ranks.{AreRanked, total_in, weight_in}

pub weight-more : {X : Type 0} (view : X → List Value) (sides : List X) (n place : ℕ) (d : X) → n < length sides
    → weight_in (take (n + 1) (map view sides)) place ≡ weight_in (take n (map view sides)) place + total_in (view (get_or sides n d)) place
weight-more view sides n place d within =
    let long = length-map sides view in
    ap (sum_by (λ (v : List Value). total_in v place)) (take_more (map view sides) n [] (omega arith)) ∙ sum_by_push (λ (v : List Value). total_in v place) (take n (map view sides)) (get_or (map view sides) n [])
    ∙ ap (λ v. weight_in (take n (map view sides)) place + total_in v place) (get_or-map view sides n d [] within)

pub weight-all : {X : Type 0} (view : X → List Value) (sides : List X) (n place : ℕ) → length sides ≤ n → weight_in (take n (map view sides)) place ≡ weight_in (map view sides) place
weight-all view sides n place done = let long = length-map sides view in ap (λ s. weight_in s place) (take_all n (map view sides) (omega arith))

pub total-small : (values : List Value) (place : ℕ) → place < length values → ((k : ℕ) (d : Value) → k < length values → (get_or values k d).total < 2 ^ 63) → total_in values place < 2 ^ 63
total-small values place within small =
    let none : Value = record { own = 0; total = 0 } in
    let is = get_or-map (λ (v : Value). v.total) values place none 0 within in
    let less = small place none within in omega arith

-- ---- places in the order of their weights

range-distinct : (count : ℕ) → IsDistinct (eq_by_cmp nat_cmp) (range_with_len 0 count)
range-distinct count = IsDistinct-from_sorted nat_cmp (range_with_len 0 count) (sorted_from_strictly_increasing (range_with_len 0 count) (λ k near.
    let long = length-range_with_len 0 count in
    let one = get_or-range_with_len 0 count k 0 (omega arith) in
    let two = get_or-range_with_len 0 count (k + 1) 0 (omega arith) in omega arith))

distinct-at : {X : Type 0} (e : X → X → Bool) (xs : List X) → IsDistinct e xs → (i j : ℕ) (d : X) → i < j → j < length xs → e (get_or xs i d) (get_or xs j d) ≡ false
distinct-at e [] distinct i j d less within = absurd (omega arith)
distinct-at e (x ∷ xs) distinct i zero d less within = absurd (omega arith)
distinct-at e (x ∷ xs) distinct zero (suc j) d less within =
    All-from_recursion (λ y. e x y ≡ false) xs (IsDistinct-head e x xs distinct) j d (omega arith)
distinct-at e (x ∷ xs) distinct (suc i) (suc j) d less within = distinct-at e xs (IsDistinct-tail e x xs distinct) i j d (omega arith) (omega arith)

-- as the sort leaves them
abbrev pub goes_first : {X : Type 0} → (X → ℕ) → (X → ℕ) → X → X → Bool
goes_first heavy place x y = is_lt (ordering_then (nat_cmp (heavy y) (heavy x)) (nat_cmp (place x) (place y)))

is-before : (weight : ℕ → ℕ) (a b : ℕ) → is_lt (ordering_then (nat_cmp (weight a) (weight b)) (nat_cmp b a)) ≡ false → (a ≡ b → ⊥) → comes_before weight a b ≡ true
is-before weight a b last apart = by (weight a) (weight b) last
  where
    by : (m n : ℕ) → is_lt (ordering_then (nat_cmp m n) (nat_cmp b a)) ≡ false → (nat_lt n m || ((m == n) && nat_lt a b)) ≡ true
    by m n last = ⊎_elim
        (λ (same : m ≡ n). ⊎_elim
        (λ (is : a ≡ b). absurd (apart is))
        (⊎_elim
        (λ (less : a < b). or_right (nat_lt n m) _ (and_from _ _ (eq-eqb m n same) (lt-ltb a b less)))
        (λ (more : b < a). absurd (true≢false (sym (ties m n same more) ∙ last))))
        (cases_order a b))
        (⊎_elim
        (λ (less : m < n). absurd (true≢false (sym (lower m n less) ∙ last)))
        (λ (more : n < m). or_left (nat_lt n m) _ (lt-ltb n m more)))
        (cases_order m n)
      where
        cmp-less : (x y : ℕ) → x < y → nat_cmp x y ≡ Less
        cmp-less x y less = ap (λ t. cond t Less (cond (x == y) Equal Greater)) (lt-ltb x y less)

        cmp-same : (x y : ℕ) → x ≡ y → nat_cmp x y ≡ Equal
        cmp-same x y same = (λ i. cond (le-ltb x y (omega arith) i) Less (cond (eq-eqb x y same i) Equal Greater))

        lower : (m n : ℕ) → m < n → is_lt (ordering_then (nat_cmp m n) (nat_cmp b a)) ≡ true
        lower m n less = ap (λ o. is_lt (ordering_then o (nat_cmp b a))) (cmp-less m n less)

        ties : (m n : ℕ) → m ≡ n → b < a → is_lt (ordering_then (nat_cmp m n) (nat_cmp b a)) ≡ true
        ties m n same more = (λ i. is_lt (ordering_then (cmp-same m n same i) (cmp-less b a more i)))

pub ranked-are : {X : Type 0} (heavy place : X → ℕ) (weight : ℕ → ℕ) (count : ℕ) (old new : List X) → IsPermutation old new → map place old ≡ range_with_len 0 count
    → All (λ x. heavy x ≡ weight (place x)) old → IsSortedBy (goes_first heavy place) new → AreRanked weight count (map place new)
ranked-are {X} heavy place weight count old new moved places weights sorted =
    let all : IsPermutation (range_with_len 0 count) (map place new) = subst (λ l. IsPermutation l (map place new)) places (IsPermutation-map place old new moved) in
    let distinct = IsDistinct-IsPermutation (eq_by_cmp nat_cmp) (eq_by_cmp_equiv nat_cmp_total).symm (range_with_len 0 count) (map place new) all (range-distinct count) in
    record { all = all; before = by new all distinct (All-permutation (λ x. heavy x ≡ weight (place x)) old new moved weights) sorted }
  where
    order : IsStrictWeakOrder (goes_first heavy place)
    order = ranks_by (then_total (back_total (on_total heavy nat_cmp_total)) (on_total place nat_cmp_total)) (λ (x : X). x)

    by : (new : List X) → IsPermutation (range_with_len 0 count) (map place new) → IsDistinct (eq_by_cmp nat_cmp) (map place new) → All (λ x. heavy x ≡ weight (place x)) new → IsSortedBy (goes_first heavy place) new
        → (i j : ℕ) → i < j → j < length (map place new) → comes_before weight (get_or (map place new) i 0) (get_or (map place new) j 0) ≡ true
    by [] all distinct weights sorted i j less within = absurd (omega arith)
    by (d ∷ ds) all distinct weights sorted i j less within =
        let xs = d ∷ ds in
        let long = length-map xs place in
        let last = sorted_far (goes_first heavy place) order xs sorted i j d (omega arith) (omega arith) in
        let first = get_or-map place xs i d 0 (omega arith) in
        let second = get_or-map place xs j d 0 (omega arith) in
        let other = distinct-at (eq_by_cmp nat_cmp) (map place xs) distinct i j 0 less within in
        is-before weight (get_or (map place xs) i 0) (get_or (map place xs) j 0)
        ((λ k. is_lt (ordering_then (nat_cmp ((ap weight first ∙ sym (weights i d (omega arith))) k) ((ap weight second ∙ sym (weights j d (omega arith))) k)) (nat_cmp (second k) (first k)))) ∙ last)
        (λ same. true≢false (sym (tied (get_or (map place xs) i 0) (get_or (map place xs) j 0) same) ∙ other))
      where
        tied : (x y : ℕ) → x ≡ y → eq_by_cmp nat_cmp x y ≡ true
        tied x y same = ap (eq_by_cmp nat_cmp x) (sym same) ∙ (eq_by_cmp_equiv nat_cmp_total).refl x

-- ---- how many come before a place

front-count : (p : ℕ → Bool) (xs : List ℕ) (i : ℕ) → i ≤ length xs → ((j : ℕ) → j < i → p (get_or xs j 0) ≡ true) → ((j : ℕ) → i ≤ j → j < length xs → p (get_or xs j 0) ≡ false)
    → length (filter p xs) ≡ i
front-count p [] zero within first rest = refl
front-count p [] (suc i) within first rest = absurd (omega arith)
front-count p (x ∷ xs) zero within first rest =
    ap (λ b. length (cond b (x ∷ filter p xs) (filter p xs))) (rest 0 (omega arith) (omega arith))
    ∙ front-count p xs zero (omega arith) (λ j less. absurd (omega arith)) (λ j far near. rest (suc j) (omega arith) (omega arith))
front-count p (x ∷ xs) (suc i) within first rest =
    ap (λ b. length (cond b (x ∷ filter p xs) (filter p xs))) (first 0 (omega arith))
    ∙ ap suc (front-count p xs i (omega arith) (λ j less. first (suc j) (omega arith)) (λ j far near. rest (suc j) (omega arith) (omega arith)))

pub not-itself : (weight : ℕ → ℕ) (a : ℕ) → comes_before weight a a ≡ false
not-itself weight a = or_from _ _ (le-ltb (weight a) (weight a) (omega arith)) (and_right (weight a == weight a) _ (le-ltb a a (omega arith)))

one-way : (weight : ℕ → ℕ) (a b : ℕ) → comes_before weight a b ≡ true → comes_before weight b a ≡ false
one-way weight a b is = by (weight a) (weight b) is
  where
    by : (m n : ℕ) → (nat_lt n m || ((m == n) && nat_lt a b)) ≡ true → (nat_lt m n || ((n == m) && nat_lt b a)) ≡ false
    by m n is = ⊎_elim
        (λ over. let more = ltb-true n m over in or_from _ _ (le-ltb m n (omega arith)) (and_left (n == m) _ (ne_eqb n m (λ same. omega arith))))
        (λ both.
        let parts = and_parts (m == n) (nat_lt a b) both in
        let same = eqb-true m n parts.0 in
        let less = ltb-true a b parts.1 in
        or_from _ _ (le-ltb m n (omega arith)) (and_right (n == m) _ (le-ltb b a (omega arith))))
        (or_cases (nat_lt n m) ((m == n) && nat_lt a b) is)

rank-is : (weight : ℕ → ℕ) (count : ℕ) (places : List ℕ) → AreRanked weight count places → (i : ℕ) → i < length places
    → length (filter (λ other. comes_before weight other (get_or places i 0)) (range_with_len 0 count)) ≡ i
rank-is weight count places are i within =
    let p = λ (other : ℕ). comes_before weight other (get_or places i 0) in
    length-filter p (range_with_len 0 count)
    ∙ sym (sum_by-IsPermutation (λ x. cond (p x) 1 0) (range_with_len 0 count) places are.all)
    ∙ sym (length-filter p places)
    ∙ front-count p places i (omega arith)
    (λ j less. are.before j i less within)
    (λ j far near. ⊎_elim
    (λ (more : i < j). one-way weight (get_or places i 0) (get_or places j 0) (are.before i j more near))
    (λ (le : j ≤ i). ap (λ n. p (get_or places n 0)) (exact j i le far) ∙ not-itself weight (get_or places i 0))
    (cases_lt i j))
  where
    exact : (n m : ℕ) → n ≤ m → m ≤ n → n ≡ m
    exact n m a b = omega arith

-- ---- flags

pub record AreFlagged (count : ℕ) (places : List ℕ) (shown : ℕ) (flags : List Bool) : Type 0 where
  pub many : length flags ≡ count
  pub each : (at : ℕ) → at < count → get_or flags at false ≡ list_any (nat_eq at) (take shown places)

pub flagged-none : (count : ℕ) (places : List ℕ) → AreFlagged count places 0 (replicate count false)
flagged-none count places = record { many = length-replicate count false; each = λ at within. get_or-replicate count at false false within }

flagged-more : (count : ℕ) (places : List ℕ) (shown : ℕ) (flags : List Bool) → AreFlagged count places shown flags → shown < length places → AreFlagged count places (shown + 1) (set flags (get_or places shown 0) true)
flagged-more count places shown flags are within = record {
  many = length-set flags (get_or places shown 0) true ∙ are.many;
  each = λ at inner. let many = are.many in
      ⊎_elim
      (λ (same : at ≡ get_or places shown 0).
      ap (λ n. get_or (set flags n true) at false) (sym same) ∙ get_or-set_same flags at true false (omega arith)
      ∙ sym (list_any_more (nat_eq at) places shown 0 within ∙ or_right (list_any (nat_eq at) (take shown places)) _ (eq-eqb at (get_or places shown 0) same)))
      (λ (apart : at ≡ get_or places shown 0 → ⊥).
      get_or-set_other flags (get_or places shown 0) at true false apart ∙ are.each at inner
      ∙ sym (list_any_more (nat_eq at) places shown 0 within ∙ ap (λ b. list_any (nat_eq at) (take shown places) || b) (ne_eqb at (get_or places shown 0) apart) ∙ or_none (list_any (nat_eq at) (take shown places))))
      (cases_eq at (get_or places shown 0));
}
  where
    or_none : (b : Bool) → (b || false) ≡ b
    or_none true = refl
    or_none false = refl

-- a place that is there has a rank
pub rank-of : (weight : ℕ → ℕ) (count : ℕ) (places : List ℕ) → AreRanked weight count places → (at : ℕ) → at < count → (i : ℕ) × (i < length places) × (get_or places i 0 ≡ at)
rank-of weight count places are at within =
    let long = length-range_with_len 0 count in
    let found = Contains-permutation (range_with_len 0 count) places at are.all (at, (omega arith), get_or-range_with_len 0 count at at within ∙ none at) in
    (found.0, found.1, get_or_default places found.0 0 at found.1 ∙ found.2)
  where
    none : (n : ℕ) → 0 + n ≡ n
    none n = omega arith

pub flagged-all : (weight : ℕ → ℕ) (count most : ℕ) (places : List ℕ) (shown : ℕ) (flags : List Bool) → AreRanked weight count places → AreFlagged count places shown flags → (shown ≡ most) ⊎ ((shown ≡ count) × (count ≤ most))
    → flags ≡ map (is_kept weight count most) (range_with_len 0 count)
flagged-all weight count most places shown flags are flagged cut =
    let long = length-map-range_with_len (is_kept weight count most) 0 count in
    let many = flagged.many in
    ext_get_or false flags (map (is_kept weight count most) (range_with_len 0 count)) (omega arith) (λ at within.
    let rank = rank-of weight count places are at (omega arith) in
    flagged.each at (omega arith) ∙ same at rank.0 rank.1 rank.2 (omega arith)
    ∙ sym (get_or-map-range_with_len (is_kept weight count most) 0 count at at false (omega arith) (omega arith)))
  where
    size : length places ≡ count
    size = length_permutation (range_with_len 0 count) places are.all ∙ length-range_with_len 0 count

    kept-by : (at i : ℕ) → i < length places → get_or places i 0 ≡ at → is_kept weight count most at ≡ nat_lt i most
    kept-by at i within is = ap (λ n. is_kept weight count most n) (sym is) ∙ ap (λ n. nat_lt n most) (rank-is weight count places are i within)

    in-most : (i : ℕ) → i < length places → i < shown → i < most
    in-most i within less = let all = size in ⊎_elim (λ one. omega arith) (λ two. let a = two.0 in let b = two.1 in omega arith) cut

    past-most : (i : ℕ) → i < length places → shown ≤ i → most ≤ i
    past-most i within more = let all = size in ⊎_elim (λ one. omega arith) (λ two. let a = two.0 in absurd (omega arith)) cut

    same : (at i : ℕ) → i < length places → get_or places i 0 ≡ at → at < count → list_any (nat_eq at) (take shown places) ≡ is_kept weight count most at
    same at i within is inner = ⊎_elim
        (λ (less : i < shown).
        let front = length-take shown places in
        list_any_at (nat_eq at) (take shown places) i 0 (omega arith) (eq-eqb at (get_or (take shown places) i 0) (sym (get_or-take shown places i 0 less ∙ is)))
        ∙ sym (kept-by at i within is ∙ lt-ltb i most (in-most i within less)))
        (λ (more : shown ≤ i).
        false_from_ne_true (list_any (nat_eq at) (take shown places)) (λ found.
        let any = Any-from_list_any (nat_eq at) (take shown places) found in
        let front = length-take shown places in
        let near = any.2 in
        let read : get_or places any.0 0 ≡ at = get_or_default places any.0 0 any.1 (omega arith) ∙ sym (get_or-take shown places any.0 any.1 (omega arith)) ∙ any.3 ∙ sym (eqb-true at any.1 any.4) in
        let one = rank-is weight count places are i within in
        let two = rank-is weight count places are any.0 (omega arith) in
        let same = ap (λ n. length (filter (λ other. comes_before weight other n) (range_with_len 0 count))) (is ∙ sym read) in absurd (omega arith))
        ∙ sym (kept-by at i within is ∙ le-ltb i most (past-most i within more)))
        (cases_lt i shown)

ranked-size : (weight : ℕ → ℕ) (count : ℕ) (places : List ℕ) → AreRanked weight count places → length places ≡ count
ranked-size weight count places are = length_permutation (range_with_len 0 count) places are.all ∙ length-range_with_len 0 count

ranked-place : (weight : ℕ → ℕ) (count : ℕ) (places : List ℕ) (i : ℕ) → AreRanked weight count places → i < length places → get_or places i 0 < count
ranked-place weight count places i are within =
    All-permutation (λ n. n < count) (range_with_len 0 count) places are.all (All-from_recursion (λ n. n < count) (range_with_len 0 count) (all-range count 0 count (omega arith))) i 0 within

read-place : {X : Type 0} (place : X → ℕ) (xs : List X) (i : ℕ) (x : X) → i < length xs → x ≡ get_or xs i x → place x ≡ get_or (map place xs) i 0
read-place place xs i x within is = ap place is ∙ sym (get_or-map place xs i x 0 within)

pub ranked-long : {X : Type 0} (place : X → ℕ) (weight : ℕ → ℕ) (count : ℕ) (ranked : List X) → AreRanked weight count (map place ranked) → length ranked ≡ count
ranked-long place weight count ranked are = sym (length-map ranked place) ∙ ranked-size weight count (map place ranked) are

pub flag-step : {X : Type 0} (place : X → ℕ) (weight : ℕ → ℕ) (count : ℕ) (ranked : List X) (rank : ℕ) (flags : List Bool) (x : X) → AreRanked weight count (map place ranked)
    → AreFlagged count (map place ranked) rank flags → rank < count → x ≡ get_or ranked rank x
    → (place x < length flags) × AreFlagged count (map place ranked) (rank + 1) (set flags (place x) true)
flag-step place weight count ranked rank flags x are flagged less is =
    let size = ranked-size weight count (map place ranked) are in
    let long = length-map ranked place in
    let read = read-place place ranked rank x (omega arith) is in
    let inner = ranked-place weight count (map place ranked) rank are (omega arith) in
    let many = flagged.many in
    ((omega arith), subst (λ n. AreFlagged count (map place ranked) (rank + 1) (set flags n true)) (sym read) (flagged-more count (map place ranked) rank flags flagged (omega arith)))

-- ---- where all are kept

pub few-before : (p : ℕ → Bool) (count at : ℕ) → at < count → p at ≡ false → length (filter p (range_with_len 0 count)) < count
few-before p count at within itself =
    let split : filter p (range_with_len 0 count) ≡ filter p (range_with_len 0 at) ++ filter p (range_with_len (at + 1) (count - at - 1)) =
    ap (λ n. filter p (range_with_len 0 n)) (parts count at within)
    ∙ ap (filter p) (range-split 0 at (suc (count - at - 1)))
    ∙ filter-append p (range_with_len 0 at) (range_with_len (0 + at) (suc (count - at - 1)))
    ∙ ap (λ a. filter p (range_with_len 0 at) ++ filter p (range_with_len a (suc (count - at - 1)))) (none at)
    ∙ ap (λ b. filter p (range_with_len 0 at) ++ cond b (at ∷ filter p (range_with_len (at + 1) (count - at - 1))) (filter p (range_with_len (at + 1) (count - at - 1)))) itself in
    let size = ap length split ∙ length-append (filter p (range_with_len 0 at)) (filter p (range_with_len (at + 1) (count - at - 1))) in
    let one = length-filter p (range_with_len 0 at) in
    let two = length-filter p (range_with_len (at + 1) (count - at - 1)) in
    let first = count_by-le-length p (range_with_len 0 at) in
    let second = count_by-le-length p (range_with_len (at + 1) (count - at - 1)) in
    let a = length-range_with_len 0 at in
    let b = length-range_with_len (at + 1) (count - at - 1) in omega arith
  where
    parts : (count at : ℕ) → at < count → count ≡ at + suc (count - at - 1)
    parts count at within = omega arith

    none : (n : ℕ) → 0 + n ≡ n
    none n = omega arith

pub all-kept : (weight : ℕ → ℕ) (count most : ℕ) → count ≤ most → replicate count true ≡ map (is_kept weight count most) (range_with_len 0 count)
all-kept weight count most enough =
    let long = length-map-range_with_len (is_kept weight count most) 0 count in
    let size = length-replicate count true in
    ext_get_or false (replicate count true) (map (is_kept weight count most) (range_with_len 0 count)) (omega arith) (λ at within.
    let few = few-before (λ other. comes_before weight other at) count at (omega arith) (not-itself weight at) in
    get_or-replicate count at true false (omega arith)
    ∙ sym (lt-ltb (length (filter (λ other. comes_before weight other at) (range_with_len 0 count))) most (omega arith))
    ∙ sym (get_or-map-range_with_len (is_kept weight count most) 0 count at at false (omega arith) (omega arith)))
