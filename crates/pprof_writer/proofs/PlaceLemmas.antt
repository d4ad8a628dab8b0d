-- The place of a text among others.
use Rattle.std.proofs.Common.{◌≡◌, ⊎_elim, ℕ, suc, ◌+◌, ◌<◌, ◌≤◌, ◌||◌, List, [], ◌∷◌, ◌++◌, length, take, drop, Bool, true, false, cond, Ordering, Less, Equal, Greater, Err, refl, sym, ap, ◌∙◌, subst, arith}
use Rattle.std.specs.Prelude.{nat_eq, not, slice_index_or}
use Rattle.std.specs.List.{HoldsAt}
use Rattle.std.specs.List.Sorted.{IsStrictlySortedBy, IsSortedBy, IsBinarySearchResult}
use Rattle.std.specs.Ordering.{is_eq, is_lt, ordering_reverse}
use Rattle.std.specs.Cmp.Lexicographic.{bytes_decides, nat_list_eq_equiv, nat_list_cmp_total, pointwise, texts_ties}
use Rattle.std.proofs.lemmas.Bool.{cases_lt, eq-eqb, ne_eqb, true≢false}
use Rattle.std.proofs.lemmas.Cmp.{tied_itself}
use Rattle.std.proofs.lemmas.List.{take-append-drop, length-take-le}
use Rattle.std.proofs.lemmas.List.Sums.{prefix_len_is, prefix_len_stops, prefix_len-le-length}
use Rattle.std.proofs.lemmas.List.Folds.{list_any_at, position_or_len_push, prefix_len-append}
use Rattle.std.proofs.lemmas.List.Sorted.{searchable_from_sorted}
use Rattle.std.proofs.lemmas.Map.Keys.{Less-from_sorted}
use Rattle.profile_model.specs.Stacks.{name_cmp}
use Rattle.pprof_writer.specs.Tables.{is_among, place_of}

-- ---- by place, and by membership

pub place-within : (xs : List (List ℕ)) (x : List ℕ) → place_of xs x ≤ length xs
place-within xs x = prefix_len-le-length (λ y. not (pointwise nat_eq x y)) xs

not-false : (b : Bool) → not b ≡ false → b ≡ true
not-false true h = refl
not-false false h = absurd (true≢false h)

-- what stands at the place of a text is the text
pub at-place : (xs : List (List ℕ)) (x : List ℕ) (d : List ℕ) → place_of xs x < length xs → x ≡ slice_index_or xs (place_of xs x) d
at-place xs x d within =
    (bytes_decides x (slice_index_or xs (place_of xs x) d)).0 (not-false _ (prefix_len_stops (λ y. not (pointwise nat_eq x y)) xs d within))

pub among-below : (xs : List (List ℕ)) (x : List ℕ) → is_among xs x ≡ true → place_of xs x < length xs
among-below [] x h = absurd (true≢false (sym h))
among-below (y ∷ ys) x h = by (pointwise nat_eq x y) h (among-below ys x)
  where
    by : (b : Bool) → (b || is_among ys x) ≡ true → (is_among ys x ≡ true → place_of ys x < length ys)
        → cond (not b) (1 + place_of ys x) 0 < suc (length ys)
    by true h later = omega arith
    by false h later = let below = later h in omega arith

pub below-among : (xs : List (List ℕ)) (x : List ℕ) → place_of xs x < length xs → is_among xs x ≡ true
below-among xs x within =
    list_any_at (pointwise nat_eq x) xs (place_of xs x) [] within ((bytes_decides x (slice_index_or xs (place_of xs x) [])).1 (at-place xs x [] within))

pub absent-place : (xs : List (List ℕ)) (x : List ℕ) → is_among xs x ≡ false → place_of xs x ≡ length xs
absent-place xs x none =
    ⊎_elim (λ below. absurd (true≢false (sym (below-among xs x below) ∙ none))) (λ least. let most = place-within xs x in omega arith) (cases_lt (place_of xs x) (length xs))

pub past-absent : (xs : List (List ℕ)) (x : List ℕ) → length xs ≤ place_of xs x → is_among xs x ≡ false
past-absent xs x past = by (is_among xs x) refl
  where
    by : (b : Bool) → is_among xs x ≡ b → b ≡ false
    by true h = absurd (let below = among-below xs x h in omega arith)
    by false h = refl

-- ---- places stay when more comes behind

pub place-append : (xs ys : List (List ℕ)) (x : List ℕ) → place_of xs x < length xs → place_of (xs ++ ys) x ≡ place_of xs x
place-append xs ys x within =
    prefix_len-append (λ y. not (pointwise nat_eq x y)) xs ys
    ∙ ap (λ b. cond b (length xs + place_of ys x) (place_of xs x)) (ne_eqb (place_of xs x) (length xs) (λ same. omega arith))

pub place-take : (xs : List (List ℕ)) (n : ℕ) (x : List ℕ) → n ≤ length xs → place_of (take n xs) x < n → place_of xs x ≡ place_of (take n xs) x
place-take xs n x within below =
    let long = length-take-le n xs within in
    ap (λ ys. place_of ys x) (sym (take-append-drop n xs)) ∙ place-append (take n xs) (drop n xs) x (omega arith)

pub place-push : (xs : List (List ℕ)) (x : List ℕ) → is_among xs x ≡ false → place_of (xs ++ x ∷ []) x ≡ length xs
place-push xs x none =
    let here : pointwise nat_eq x x ≡ true = (bytes_decides x x).1 refl in
    position_or_len_push (pointwise nat_eq x) xs x
    ∙ ap (λ b. cond b (length xs + cond (pointwise nat_eq x x) 0 1) (place_of xs x)) (eq-eqb (place_of xs x) (length xs) (absent-place xs x none))
    ∙ ap (λ b. length xs + cond b 0 1) here ∙ zero (length xs)
  where
    zero : (n : ℕ) → n + 0 ≡ n
    zero n = omega arith

-- ---- in ascending order

other-below : (x y : List ℕ) → name_cmp y x ≡ Less → pointwise nat_eq x y ≡ false
other-below x y less = nat_list_eq_equiv.symm x y ∙ texts_ties y x ∙ ap is_eq less

pub place-sorted : (xs : List (List ℕ)) (x : List ℕ) (at : ℕ) → IsStrictlySortedBy name_cmp xs → at < length xs → slice_index_or xs at [] ≡ x → place_of xs x ≡ at
place-sorted xs x at sorted within is =
    prefix_len_is (λ y. not (pointwise nat_eq x y)) xs at [] (omega arith)
    (λ k below. ap not (other-below x (slice_index_or xs k []) (subst (λ y. name_cmp (slice_index_or xs k []) y ≡ Less) is (Less-from_sorted name_cmp xs k at [] sorted below within))))
    (λ here. ap not ((bytes_decides x (slice_index_or xs at [])).1 (sym is)))

-- what a search found
pub place-found : (xs : List (List ℕ)) (x : List ℕ) (at : ℕ) → IsStrictlySortedBy name_cmp xs → at < length xs → HoldsAt (λ y. name_cmp y x ≡ Equal) xs at → at ≡ place_of xs x
place-found xs x at sorted within equal =
    let same : slice_index_or xs at [] ≡ x = (bytes_decides (slice_index_or xs at []) x).0 (texts_ties (slice_index_or xs at []) x ∙ ap is_eq (equal [])) in
    sym (place-sorted xs x at sorted within same)

rises : (xs : List (List ℕ)) → IsStrictlySortedBy name_cmp xs → IsSortedBy (λ a b. is_lt (name_cmp a b)) xs
rises xs sorted k d low high =
    ap is_lt (nat_list_cmp_total.antisymm (slice_index_or xs (k + 1) d) (slice_index_or xs k d) ∙ ap ordering_reverse (Less-from_sorted name_cmp xs k (k + 1) d sorted (omega arith) high))

less-equal : {P : Type 0} (o : Ordering) → o ≡ Less → o ≡ Equal → P
less-equal o less equal = absurd (let wrong : Less ≡ Equal = sym less ∙ equal in cc)

greater-equal : {P : Type 0} (o : Ordering) → o ≡ Greater → o ≡ Equal → P
greater-equal o greater equal = absurd (let wrong : Greater ≡ Equal = sym greater ∙ equal in cc)

-- a search for what is there finds it
pub search-finds : (xs : List (List ℕ)) (x : List ℕ) (at : ℕ) → IsStrictlySortedBy name_cmp xs → is_among xs x ≡ true
    → IsBinarySearchResult (λ y. name_cmp y x) xs (Err at) → ⊥
search-finds xs x at sorted among missed =
    let place = place_of xs x in
    let within : place < length xs = among-below xs x among in
    let parted = missed (searchable_from_sorted nat_list_cmp_total (λ y. y) xs x (rises xs sorted)) in
    let equal : name_cmp (slice_index_or xs place []) x ≡ Equal =
    subst (λ y. name_cmp y x ≡ Equal) (at-place xs x [] within) (tied_itself nat_list_cmp_total x) in
    ⊎_elim (λ before. less-equal _ (parted.0 place [] (omega arith) before) equal) (λ behind. greater-equal _ (parted.1 place [] behind within) equal) (cases_lt place at)
