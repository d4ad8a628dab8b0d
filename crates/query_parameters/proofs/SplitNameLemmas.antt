-- A name of a series, cut at its marks, gives its service and its pairs.
use Rattle.std.proofs.Common.{◌≡◌, ◌∙◌, ◌==◌, ◌⊎◌, ◌||◌, ◌+◌, ◌<◌, ℕ, Bool, true, false, cond, not, List, [], ◌∷◌, ◌++◌, length, take, drop, map, refl, sym, ap, inl, inr, arith, All, suc}
use Rattle.std.specs.Prelude.{◌&&◌}
use Rattle.std.specs.Cmp.{first_so, second_so}
use Rattle.std.specs.List.{AllByRecursion, after_first, before_first, list_all, position_or_len, slice_split}
use Rattle.std.proofs.lemmas.Bool.{true≢false, eq-eqb}
use Rattle.std.proofs.lemmas.List.{length-append}
use Rattle.std.proofs.lemmas.List.Elements.{recursion_from_All}
use Rattle.std.proofs.lemmas.List.Folds.{list_all-append}
use Rattle.std.proofs.lemmas.List.Splits.{slice_split_at, slice_split_none}
use Rattle.std.proofs.lemmas.List.Sums.{AllPass-from_list_all}
use Rattle.query_parameters.specs.SeriesNames.{IsKey, IsName, IsPair, IsSeriesName, IsValue, pair_text, pairs_text}
use Rattle.query_parameters.specs.SeriesScan.{split_pair, split_pairs}

abbrev Pair : Type 0
Pair = List ℕ × List ℕ

-- bytes without a mark
abbrev Clear : ℕ → List ℕ → Type 0
Clear mark bytes = list_all (λ b. not (b == mark)) bytes ≡ true

not_true : (b : Bool) → not b ≡ true → b ≡ false
not_true true h = absurd (true≢false (sym h))
not_true false h = refl

-- ---- at the first mark

place : (mark : ℕ) (front back : List ℕ) → Clear mark front → position_or_len (λ b. b == mark) (front ++ mark ∷ back) ≡ length front
place mark [] back clear = ap (λ (here : Bool). cond (not here) (1 + position_or_len (λ b. b == mark) back) 0) (eq-eqb mark mark refl)
place mark (b ∷ front) back clear =
    let later = place mark front back (second_so (not (b == mark)) (list_all (λ c. not (c == mark)) front) clear) in
    let here = first_so (not (b == mark)) (list_all (λ c. not (c == mark)) front) clear in
    ap (λ (other : Bool). cond other (1 + position_or_len (λ c. c == mark) (front ++ mark ∷ back)) 0) here
    ∙ (let count : 1 + position_or_len (λ c. c == mark) (front ++ mark ∷ back) ≡ length (b ∷ front) = omega arith in count)

no_place : (mark : ℕ) (bytes : List ℕ) → Clear mark bytes → position_or_len (λ b. b == mark) bytes ≡ length bytes
no_place mark [] clear = refl
no_place mark (b ∷ bytes) clear =
    let later = no_place mark bytes (second_so (not (b == mark)) (list_all (λ c. not (c == mark)) bytes) clear) in
    let here = first_so (not (b == mark)) (list_all (λ c. not (c == mark)) bytes) clear in
    ap (λ (other : Bool). cond other (1 + position_or_len (λ c. c == mark) bytes) 0) here
    ∙ (let count : 1 + position_or_len (λ c. c == mark) bytes ≡ length (b ∷ bytes) = omega arith in count)

take_front : (front back : List ℕ) → take (length front) (front ++ back) ≡ front
take_front [] back = refl
take_front (b ∷ front) back = ap (λ (rest : List ℕ). b ∷ rest) (take_front front back)

drop_front : (front : List ℕ) (b : ℕ) (back : List ℕ) → drop (length front + 1) (front ++ b ∷ back) ≡ back
drop_front [] b back = refl
drop_front (x ∷ front) b back =
    let count : length (x ∷ front) + 1 ≡ suc (length front + 1) = omega arith in
    ap (λ (n : ℕ). drop n (x ∷ (front ++ b ∷ back))) count ∙ drop_front front b back

before : (mark : ℕ) (front back : List ℕ) → Clear mark front → before_first (λ b. b == mark) (front ++ mark ∷ back) ≡ front
before mark front back clear = ap (λ (n : ℕ). take n (front ++ mark ∷ back)) (place mark front back clear) ∙ take_front front (mark ∷ back)

after : (mark : ℕ) (front back : List ℕ) → Clear mark front → after_first (λ b. b == mark) (front ++ mark ∷ back) ≡ back
after mark front back clear = ap (λ (n : ℕ). drop (n + 1) (front ++ mark ∷ back)) (place mark front back clear) ∙ drop_front front mark back

-- ---- pairs

weaker : (p q : ℕ → Bool) → ((b : ℕ) → p b ≡ true → q b ≡ true) → (bytes : List ℕ) → list_all p bytes ≡ true → list_all q bytes ≡ true
weaker p q less [] all = refl
weaker p q less (b ∷ bytes) all = λ i. less b (first_so (p b) (list_all p bytes) all) i && weaker p q less bytes (second_so (p b) (list_all p bytes) all) i

none_of : (a c d : Bool) → not (a || (c || d)) ≡ true → (not a ≡ true) × (not c ≡ true) × (not d ≡ true)
none_of true c d h = absurd (true≢false (sym h))
none_of false true d h = absurd (true≢false (sym h))
none_of false false true h = absurd (true≢false (sym h))
none_of false false false h = (refl, refl, refl)

neither_of : (c d : Bool) → not (c || d) ≡ true → (not c ≡ true) × (not d ≡ true)
neither_of true d h = absurd (true≢false (sym h))
neither_of false true h = absurd (true≢false (sym h))
neither_of false false h = (refl, refl)

key_equals : (key : List ℕ) → IsKey key → Clear 61 key
key_equals key is = weaker (λ b. not (b == 61 || (b == 44 || b == 125))) (λ b. not (b == 61)) (λ b h. (none_of (b == 61) (b == 44) (b == 125) h).0) key is

key_comma : (key : List ℕ) → IsKey key → Clear 44 key
key_comma key is = weaker (λ b. not (b == 61 || (b == 44 || b == 125))) (λ b. not (b == 44)) (λ b h. (none_of (b == 61) (b == 44) (b == 125) h).1) key is

key_brace : (key : List ℕ) → IsKey key → Clear 125 key
key_brace key is = weaker (λ b. not (b == 61 || (b == 44 || b == 125))) (λ b. not (b == 125)) (λ b h. (none_of (b == 61) (b == 44) (b == 125) h).2) key is

value_comma : (value : List ℕ) → IsValue value → Clear 44 value
value_comma value is = weaker (λ b. not (b == 44 || b == 125)) (λ b. not (b == 44)) (λ b h. (neither_of (b == 44) (b == 125) h).0) value is

value_brace : (value : List ℕ) → IsValue value → Clear 125 value
value_brace value is = weaker (λ b. not (b == 44 || b == 125)) (λ b. not (b == 125)) (λ b h. (neither_of (b == 44) (b == 125) h).1) value is

joined : (mark : ℕ) (front back : List ℕ) → Clear mark front → Clear mark back → Clear mark (front ++ back)
joined mark front back first second =
    list_all-append (λ b. not (b == mark)) front back ∙ (λ i. first i && second i)

pair_comma : (p : Pair) → IsPair p → Clear 44 (pair_text p)
pair_comma p is = joined 44 p.0 (61 ∷ p.1) (key_comma p.0 is.key) (value_comma p.1 is.value)

pair_brace : (p : Pair) → IsPair p → Clear 125 (pair_text p)
pair_brace p is = joined 125 p.0 (61 ∷ p.1) (key_brace p.0 is.key) (value_brace p.1 is.value)

pairs_brace : (pairs : List Pair) → AllByRecursion IsPair pairs → Clear 125 (pairs_text pairs)
pairs_brace [] all = refl
pairs_brace (p ∷ []) all = pair_brace p all.0
pairs_brace (p ∷ q ∷ ps) all = joined 125 (pair_text p) (44 ∷ pairs_text (q ∷ ps)) (pair_brace p all.0) (pairs_brace (q ∷ ps) all.1)

fails : (bytes : List ℕ) → Clear 44 bytes → All (λ b. (b == 44) ≡ false) bytes
fails bytes clear k d short = not_true _ (AllPass-from_list_all (λ b. not (b == 44)) bytes clear k d short)

pieces : (p : Pair) (ps : List Pair) → AllByRecursion IsPair (p ∷ ps) → slice_split (λ b. b == 44) (pairs_text (p ∷ ps)) ≡ map pair_text (p ∷ ps)
pieces p [] all = slice_split_none (λ b. b == 44) (pair_text p) (fails (pair_text p) (pair_comma p all.0))
pieces p (q ∷ ps) all =
    slice_split_at (λ b. b == 44) (pair_text p) 44 (pairs_text (q ∷ ps)) (fails (pair_text p) (pair_comma p all.0)) refl
    ∙ ap (λ (rest : List (List ℕ)). pair_text p ∷ rest) (pieces q ps all.1)

pair_back : (p : Pair) → IsPair p → split_pair (pair_text p) ≡ p
pair_back p is = λ i. (before 61 p.0 p.1 (key_equals p.0 is.key) i, after 61 p.0 p.1 (key_equals p.0 is.key) i)

pairs_back : (pairs : List Pair) → AllByRecursion IsPair pairs → map split_pair (map pair_text pairs) ≡ pairs
pairs_back [] all = refl
pairs_back (p ∷ ps) all = λ i. pair_back p all.0 i ∷ pairs_back ps all.1 i

some_split : (bytes : List ℕ) → 0 < length bytes → split_pairs bytes ≡ map split_pair (slice_split (λ b. b == 44) bytes)
some_split [] some = absurd (omega arith)
some_split (b ∷ bytes) some = refl

pair_some : (p : Pair) (ps : List Pair) → 0 < length (pairs_text (p ∷ ps))
pair_some p [] = let size = length-append p.0 (61 ∷ p.1) in omega arith
pair_some p (q ∷ ps) =
    let size = length-append p.0 (61 ∷ p.1) in let whole = length-append (pair_text p) (44 ∷ pairs_text (q ∷ ps)) in omega arith

pub pairs_split : (pairs : List Pair) → AllByRecursion IsPair pairs → split_pairs (pairs_text pairs) ≡ pairs
pairs_split [] all = refl
pairs_split (p ∷ ps) all =
    some_split (pairs_text (p ∷ ps)) (pair_some p ps) ∙ ap (λ (texts : List (List ℕ)). map split_pair texts) (pieces p ps all) ∙ pairs_back (p ∷ ps) all

-- ---- names

-- without an opening brace the text is the service
pub alone : (text : List ℕ) → IsName text → position_or_len (λ b. b == 123) text ≡ length text → IsSeriesName text text []
alone text (service, pairs, is) none = by is.text_is
  where
    by : ((text ≡ service) × (pairs ≡ [])) ⊎ (text ≡ service ++ 123 ∷ (pairs_text pairs ++ 125 ∷ [])) → IsSeriesName text text []
    by (inl same) = record { service_is = rw same.0 is.service_is; pairs_are = λ k d short. absurd (omega arith); text_is = inl (refl, refl) }
    by (inr whole) =
        let at = ap (position_or_len (λ b. b == 123)) whole ∙ place 123 service (pairs_text pairs ++ 125 ∷ []) is.service_is.plain in
        let size = ap length whole in
        let parts = length-append service (123 ∷ (pairs_text pairs ++ 125 ∷ [])) in
        absurd (omega arith)

-- with one, the service stands before it, and the pairs up to the closing one
pub in_braces : (text : List ℕ) → IsName text → position_or_len (λ b. b == 123) text < length text
    → IsSeriesName text (before_first (λ b. b == 123) text) (split_pairs (before_first (λ b. b == 125) (after_first (λ b. b == 123) text)))
in_braces text (service, pairs, is) some = by is.text_is
  where
    all : AllByRecursion IsPair pairs
    all = recursion_from_All IsPair pairs is.pairs_are

    by : ((text ≡ service) × (pairs ≡ [])) ⊎ (text ≡ service ++ 123 ∷ (pairs_text pairs ++ 125 ∷ []))
        → IsSeriesName text (before_first (λ b. b == 123) text) (split_pairs (before_first (λ b. b == 125) (after_first (λ b. b == 123) text)))
    by (inl same) =
        let at = ap (position_or_len (λ b. b == 123)) same.0 ∙ no_place 123 service is.service_is.plain in
        let size = ap length same.0 in absurd (omega arith)
    by (inr whole) =
        let front : before_first (λ b. b == 123) text ≡ service = ap (before_first (λ b. b == 123)) whole ∙ before 123 service (pairs_text pairs ++ 125 ∷ []) is.service_is.plain in
        let rest : after_first (λ b. b == 123) text ≡ pairs_text pairs ++ 125 ∷ [] =
        ap (after_first (λ b. b == 123)) whole ∙ after 123 service (pairs_text pairs ++ 125 ∷ []) is.service_is.plain in
        let body : before_first (λ b. b == 125) (after_first (λ b. b == 123) text) ≡ pairs_text pairs =
        ap (before_first (λ b. b == 125)) rest ∙ before 125 (pairs_text pairs) [] (pairs_brace pairs all) in
        let own : split_pairs (before_first (λ b. b == 125) (after_first (λ b. b == 123) text)) ≡ pairs = ap split_pairs body ∙ pairs_split pairs all in
        rw (front, own) is
