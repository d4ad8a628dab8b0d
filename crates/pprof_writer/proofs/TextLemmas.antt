-- Texts, where more come that aren't there yet.
use Rattle.std.proofs.Common.{◌≡◌, ℕ, ◌+◌, ◌<◌, ◌≤◌, ◌||◌, List, [], ◌∷◌, ◌++◌, length, take, map, fold, Bool, true, false, cond, refl, sym, ap, ◌∙◌, arith}
use Rattle.std.specs.Prelude.{nat_eq, slice_index_or}
use Rattle.std.specs.List.Sorted.{IsStrictlySortedBy}
use Rattle.std.specs.Cmp.Lexicographic.{bytes_decides, pointwise}
use Rattle.std.proofs.lemmas.Bool.{true≢false}
use Rattle.std.proofs.lemmas.List.{length-append, length-take-le, map-append, take-append-le, take_all, take_more}
use Rattle.std.proofs.lemmas.List.Folds.{list_any-append}
use Rattle.std.proofs.lemmas.List.Sums.{fold_more}
use Rattle.profile_model.specs.Stacks.{name_cmp}
use Rattle.pprof_writer.specs.Tables.{is_among, place_of, with_text}
use Rattle.pprof_writer.proofs.PlaceLemmas.{among-below, below-among, past-absent, place-append, place-push, place-sorted, place-take}

-- ---- one text more

pub with-old : (texts : List (List ℕ)) (text : List ℕ) → is_among texts text ≡ true → with_text texts text ≡ texts
with-old texts text is = ap (λ b. cond b texts (texts ++ text ∷ [])) is

pub with-new : (texts : List (List ℕ)) (text : List ℕ) → is_among texts text ≡ false → with_text texts text ≡ texts ++ text ∷ []
with-new texts text is = ap (λ b. cond b texts (texts ++ text ∷ [])) is

-- what a search among the first texts tells
pub record Looked (texts : List (List ℕ)) (first : ℕ) (text : List ℕ) : Type 0 where
  pub within : first ≤ length texts
  pub others : is_among texts text ≡ is_among (take first texts) text

pub looked-there : (texts : List (List ℕ)) (first : ℕ) (text : List ℕ) → Looked texts first text → place_of (take first texts) text < first → is_among texts text ≡ true
looked-there texts first text looked below =
    let long = length-take-le first texts looked.within in looked.others ∙ below-among (take first texts) text (omega arith)

pub looked-absent : (texts : List (List ℕ)) (first : ℕ) (text : List ℕ) → Looked texts first text → first ≤ place_of (take first texts) text → is_among texts text ≡ false
looked-absent texts first text looked past =
    let long = length-take-le first texts looked.within in looked.others ∙ past-absent (take first texts) text (omega arith)

pub place-there : (texts : List (List ℕ)) (first : ℕ) (text : List ℕ) → Looked texts first text → place_of (take first texts) text < first
    → place_of (take first texts) text ≡ place_of (with_text texts text) text
place-there texts first text looked below =
    sym (ap (λ ts. place_of ts text) (with-old texts text (looked-there texts first text looked below)) ∙ place-take texts first text looked.within below)

pub place-new : (texts : List (List ℕ)) (text : List ℕ) → is_among texts text ≡ false → length texts ≡ place_of (with_text texts text) text
place-new texts text none = sym (ap (λ ts. place_of ts text) (with-new texts text none) ∙ place-push texts text none)

-- ---- many texts more

with-others : (texts : List (List ℕ)) (text q : List ℕ) → pointwise nat_eq q text ≡ false → is_among (with_text texts text) q ≡ is_among texts q
with-others texts text q other = by (is_among texts text)
  where
    none : (a b : Bool) → b ≡ false → (a || (b || false)) ≡ a
    none true b is = refl
    none false true is = absurd (true≢false is)
    none false false is = refl

    by : (b : Bool) → is_among (cond b texts (texts ++ text ∷ [])) q ≡ is_among texts q
    by true = refl
    by false = list_any-append (pointwise nat_eq q) texts (text ∷ []) ∙ none (is_among texts q) (pointwise nat_eq q text) other

or-none : (a b : Bool) → (a || b) ≡ false → (a ≡ false) × (b ≡ false)
or-none true b h = absurd (true≢false h)
or-none false b h = (refl, h)

pub fold-others : (texts more : List (List ℕ)) (q : List ℕ) → is_among more q ≡ false → is_among (fold with_text texts more) q ≡ is_among texts q
fold-others texts [] q none = refl
fold-others texts (m ∷ more) q none =
    let parts = or-none (pointwise nat_eq q m) (is_among more q) none in
    fold-others (with_text texts m) more q parts.1 ∙ with-others texts m q parts.0

with-kept : (texts : List (List ℕ)) (text q : List ℕ) → is_among texts q ≡ true → is_among (with_text texts text) q ≡ true
with-kept texts text q h = by (is_among texts text)
  where
    by : (b : Bool) → is_among (cond b texts (texts ++ text ∷ [])) q ≡ true
    by true = h
    by false = list_any-append (pointwise nat_eq q) texts (text ∷ []) ∙ ap (λ b. b || (pointwise nat_eq q text || false)) h

with-own : (texts : List (List ℕ)) (text : List ℕ) → is_among (with_text texts text) text ≡ true
with-own texts text = by (is_among texts text) refl
  where
    last : (a b : Bool) → b ≡ true → (a || (b || false)) ≡ true
    last true b is = refl
    last false true is = refl
    last false false is = absurd (true≢false (sym is))

    by : (b : Bool) → is_among texts text ≡ b → is_among (cond b texts (texts ++ text ∷ [])) text ≡ true
    by true h = h
    by false h = list_any-append (pointwise nat_eq text) texts (text ∷ []) ∙ last (is_among texts text) (pointwise nat_eq text text) ((bytes_decides text text).1 refl)

pub fold-kept : (texts more : List (List ℕ)) (q : List ℕ) → is_among texts q ≡ true → is_among (fold with_text texts more) q ≡ true
fold-kept texts [] q h = h
fold-kept texts (m ∷ more) q h = fold-kept (with_text texts m) more q (with-kept texts m q h)

pub fold-own : (texts more : List (List ℕ)) (q : List ℕ) → is_among more q ≡ true → is_among (fold with_text texts more) q ≡ true
fold-own texts [] q h = absurd (true≢false (sym h))
fold-own texts (m ∷ more) q h = by (pointwise nat_eq q m) refl h (λ later. fold-own (with_text texts m) more q later)
  where
    by : (b : Bool) → pointwise nat_eq q m ≡ b → (b || is_among more q) ≡ true → (is_among more q ≡ true → is_among (fold with_text (with_text texts m) more) q ≡ true)
        → is_among (fold with_text (with_text texts m) more) q ≡ true
    by true is h later =
        fold-kept (with_text texts m) more q
        (ap (is_among (with_text texts m)) ((bytes_decides q m).0 is) ∙ with-own texts m)
    by false is h later = later h

take-with : (n : ℕ) (texts : List (List ℕ)) (text : List ℕ) → n ≤ length texts → (take n (with_text texts text) ≡ take n texts) × (n ≤ length (with_text texts text))
take-with n texts text within = by (is_among texts text)
  where
    by : (b : Bool) → (take n (cond b texts (texts ++ text ∷ [])) ≡ take n texts) × (n ≤ length (cond b texts (texts ++ text ∷ [])))
    by true = (refl, within)
    by false = let long = length-append texts (text ∷ []) in (take-append-le n texts (text ∷ []) within, omega arith)

-- the first texts stay
pub take-fold : (n : ℕ) (texts more : List (List ℕ)) → n ≤ length texts → (take n (fold with_text texts more) ≡ take n texts) × (n ≤ length (fold with_text texts more))
take-fold n texts [] within = (refl, within)
take-fold n texts (m ∷ more) within =
    let one = take-with n texts m within in
    let rest = take-fold n (with_text texts m) more one.1 in
    (rest.0 ∙ one.0, rest.1)

-- of texts in order, none stands before itself
pub not-before : (xs : List (List ℕ)) (i : ℕ) → IsStrictlySortedBy name_cmp xs → i < length xs → is_among (take i xs) (slice_index_or xs i []) ≡ false
not-before xs i sorted within = by (is_among (take i xs) (slice_index_or xs i [])) refl
  where
    by : (b : Bool) → is_among (take i xs) (slice_index_or xs i []) ≡ b → b ≡ false
    by false h = refl
    by true h =
        let x = slice_index_or xs i [] in
        let long = length-take-le i xs (omega arith) in
        let below = among-below (take i xs) x h in
        let one : place_of xs x ≡ place_of (take i xs) x = place-take xs i x (omega arith) (omega arith) in
        let two : place_of xs x ≡ i = place-sorted xs x i sorted within refl in
        absurd (omega arith)

-- a frame is looked for among the texts of the type alone
pub looked-first : (first frames : List (List ℕ)) (i : ℕ) → IsStrictlySortedBy name_cmp frames → i < length frames
    → Looked (fold with_text first (take i frames)) (length first) (slice_index_or frames i [])
looked-first first frames i sorted within =
    let front = take-fold (length first) first (take i frames) (omega arith) in
    let all : take (length first) first ≡ first = take_all (length first) first (omega arith) in
    record {
      within = front.1;
      others = fold-others first (take i frames) (slice_index_or frames i []) (not-before frames i sorted within)
          ∙ ap (λ texts. is_among texts (slice_index_or frames i [])) (sym (front.0 ∙ all));
    }

place-with : (texts : List (List ℕ)) (text y : List ℕ) → is_among texts y ≡ true → place_of (with_text texts text) y ≡ place_of texts y
place-with texts text y there = by (is_among texts text)
  where
    by : (b : Bool) → place_of (cond b texts (texts ++ text ∷ [])) y ≡ place_of texts y
    by true = refl
    by false = place-append texts (text ∷ []) y (among-below texts y there)

pub places-kept : (texts : List (List ℕ)) (text : List ℕ) (ys : List (List ℕ)) → ((y : List ℕ) → is_among ys y ≡ true → is_among texts y ≡ true)
    → map (place_of (with_text texts text)) ys ≡ map (place_of texts) ys
places-kept texts text [] there = refl
places-kept texts text (y ∷ ys) there =
    let one = place-with texts text y (there y (own y (is_among ys y))) in
    let rest = places-kept texts text ys (λ z h. there z (later (pointwise nat_eq z y) (is_among ys z) h)) in
    (λ i. one i ∷ rest i)
  where
    own : (y : List ℕ) (b : Bool) → (pointwise nat_eq y y || b) ≡ true
    own y b = ap (λ a. a || b) ((bytes_decides y y).1 refl)

    later : (a b : Bool) → b ≡ true → (a || b) ≡ true
    later true b h = refl
    later false b h = h

-- one frame more, and its place
pub places-more : (first frames : List (List ℕ)) (i : ℕ) (texts after : List (List ℕ)) (before places : List ℕ) (place : ℕ) (frame : List ℕ) → i < length frames
    → frame ≡ slice_index_or frames i []
    → texts ≡ fold with_text first (take i frames) → before ≡ map (place_of texts) (take i frames)
    → after ≡ with_text texts frame → place ≡ place_of (with_text texts frame) frame → places ≡ before ++ place ∷ []
    → (after ≡ fold with_text first (take (i + 1) frames)) × (places ≡ map (place_of after) (take (i + 1) frames))
places-more first frames i texts after before places place frame within is texts-are before-are after-are place-is grown =
    let whole : after ≡ with_text texts (slice_index_or frames i []) = after-are ∙ ap (with_text texts) is in
    let here : place ≡ place_of after (slice_index_or frames i []) = place-is ∙ (λ j. place_of (sym after-are j) (is j)) in
    let kept : map (place_of after) (take i frames) ≡ before =
    ap (λ ts. map (place_of ts) (take i frames)) after-are
    ∙ places-kept texts frame (take i frames) (λ y h. ap (λ ts. is_among ts y) texts-are ∙ fold-own first (take i frames) y h) ∙ sym before-are in (
      whole ∙ ap (λ ts. with_text ts (slice_index_or frames i [])) texts-are ∙ sym (fold_more with_text first frames i [] within),
      grown ∙ (λ j. sym kept j ++ here j ∷ []) ∙ sym (map-append (place_of after) (take i frames) (slice_index_or frames i [] ∷ [])) ∙ ap (map (place_of after)) (sym (take_more frames i [] within)),
    )
