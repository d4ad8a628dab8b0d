-- Reading a series' name byte by byte goes on as long as some name does.
use Rattle.std.proofs.Common.{◌≡◌, ◌∙◌, ◌==◌, ◌⊎◌, ◌||◌, ◌+◌, ◌<◌, ◌≤◌, ℕ, zero, suc, Bool, true, false, cond, not, List, [], ◌∷◌, ◌++◌, length, take, drop, get_or, refl, sym, ap, inl, inr, arith, nat_lt, Option, Some, None}
use Rattle.std.specs.Cmp.{first_so, second_so}
use Rattle.std.specs.List.{AllByRecursion, list_all}
use Rattle.std.proofs.lemmas.Bool.{true≢false, eqb-true, lt-ltb, ltb-true}
use Rattle.std.proofs.lemmas.List.{append-nil, append_assoc, take-append-drop, take-take, take_all}
use Rattle.std.proofs.lemmas.List.Elements.{All-from_recursion, recursion_from_All}
use Rattle.std.proofs.lemmas.List.Sums.{fold-append, fold_more}
use Rattle.profile_model.specs.Breaks.{Begins, BreaksAt}
use Rattle.query_parameters.specs.SeriesNames.{IsKey, IsName, IsPair, IsValue, most_service_bytes, pair_text, pairs_text}
use Rattle.query_parameters.specs.SeriesScan.{after_key, after_service, after_value, ends_whole, is_whole, next_part, scan, start, then_byte}
use Rattle.query_parameters.specs.declared.scan.Part.{Part}
use Rattle.query_parameters.specs.declared.scan.Part.TheVariants.{Service, Open, Key, Value, End}

abbrev Pair : Type 0
Pair = List ℕ × List ℕ

not_true : (b : Bool) → not b ≡ true → b ≡ false
not_true true h = absurd (true≢false (sym h))
not_true false h = refl

neither : (a b : Bool) → (a || b) ≡ false → (a ≡ false) × (b ≡ false)
neither true b h = absurd (true≢false h)
neither false b h = (refl, h)

scan-none : (bytes : List ℕ) → scan None bytes ≡ None
scan-none [] = refl
scan-none (b ∷ bytes) = scan-none bytes

lost : (bytes : List ℕ) → ends_whole (scan None bytes) ≡ true → ⊥
lost bytes whole = true≢false (sym whole ∙ ap ends_whole (scan-none bytes))

-- ---- names are read to their end

service_scan : (service rest : List ℕ) (n : ℕ) → list_all (λ b. not (b == 123)) service ≡ true → n + length service ≤ most_service_bytes
    → scan (Some (Service n)) (service ++ rest) ≡ scan (Some (Service (n + length service))) rest
service_scan [] rest n plain short = ap (λ (k : ℕ). scan (Some (Service k)) rest) (let same : n ≡ n + 0 = omega arith in same)
service_scan (b ∷ service) rest n plain short =
    let other = not_true (b == 123) (first_so (not (b == 123)) (list_all (λ c. not (c == 123)) service) plain) in
    let room : nat_lt n most_service_bytes ≡ true = lt-ltb n most_service_bytes (omega arith) in
    let step : after_service n b ≡ Some (Service (n + 1)) = rw (other, room) refl in
    let count : n + 1 + length service ≡ n + length (b ∷ service) = omega arith in
    ap (λ (part : Option Part). scan part (service ++ rest)) step
    ∙ service_scan service rest (n + 1) (second_so (not (b == 123)) (list_all (λ c. not (c == 123)) service) plain) (omega arith)
    ∙ ap (λ (k : ℕ). scan (Some (Service k)) rest) count

key_byte : (b : ℕ) → not (b == 61 || (b == 44 || b == 125)) ≡ true → after_key b ≡ Some Key
key_byte b plain =
    let other = neither (b == 61) (b == 44 || b == 125) (not_true (b == 61 || (b == 44 || b == 125)) plain) in rw (other.0, other.1) refl

key_scan : (key rest : List ℕ) → IsKey key → scan (Some Key) (key ++ rest) ≡ scan (Some Key) rest
key_scan [] rest plain = refl
key_scan (b ∷ key) rest plain =
    ap (λ (part : Option Part). scan part (key ++ rest)) (key_byte b (first_so (not (b == 61 || (b == 44 || b == 125))) (list_all (λ c. not (c == 61 || (c == 44 || c == 125))) key) plain))
    ∙ key_scan key rest (second_so (not (b == 61 || (b == 44 || b == 125))) (list_all (λ c. not (c == 61 || (c == 44 || c == 125))) key) plain)

value_byte : (b : ℕ) → not (b == 44 || b == 125) ≡ true → after_value b ≡ Some Value
value_byte b plain = let other = neither (b == 44) (b == 125) (not_true (b == 44 || b == 125) plain) in rw (other.0, other.1) refl

value_scan : (value rest : List ℕ) → IsValue value → scan (Some Value) (value ++ rest) ≡ scan (Some Value) rest
value_scan [] rest plain = refl
value_scan (b ∷ value) rest plain =
    ap (λ (part : Option Part). scan part (value ++ rest)) (value_byte b (first_so (not (b == 44 || b == 125)) (list_all (λ c. not (c == 44 || c == 125)) value) plain))
    ∙ value_scan value rest (second_so (not (b == 44 || b == 125)) (list_all (λ c. not (c == 44 || c == 125)) value) plain)

pair_scan : (p : Pair) (rest : List ℕ) → IsPair p → scan (Some Key) (pair_text p ++ rest) ≡ scan (Some Value) rest
pair_scan p rest is =
    ap (λ (bytes : List ℕ). scan (Some Key) bytes) (append_assoc p.0 (61 ∷ p.1) rest)
    ∙ key_scan p.0 (61 ∷ (p.1 ++ rest)) is.key
    ∙ value_scan p.1 rest is.value

-- what follows a value: the pairs that are left, and the closing brace
abbrev tail_text : List Pair → List ℕ
tail_text [] = 125 ∷ []
tail_text (p ∷ ps) = 44 ∷ (pair_text p ++ tail_text ps)

-- what follows the opening brace
abbrev body_text : List Pair → List ℕ
body_text [] = 125 ∷ []
body_text (p ∷ ps) = pair_text p ++ tail_text ps

tail_scan : (pairs : List Pair) → AllByRecursion IsPair pairs → scan (Some Value) (tail_text pairs) ≡ Some End
tail_scan [] all = refl
tail_scan (p ∷ ps) all = pair_scan p (tail_text ps) all.0 ∙ tail_scan ps all.1

-- a key's first byte may follow the opening brace
open_key : (key rest : List ℕ) → IsKey key → scan (Some Open) (key ++ 61 ∷ rest) ≡ scan (Some Key) (key ++ 61 ∷ rest)
open_key [] rest plain = refl
open_key (b ∷ key) rest plain =
    let other = neither (b == 61) (b == 44 || b == 125) (not_true (b == 61 || (b == 44 || b == 125))
    (first_so (not (b == 61 || (b == 44 || b == 125))) (list_all (λ c. not (c == 61 || (c == 44 || c == 125))) key) plain)) in
    let brace = neither (b == 44) (b == 125) other.1 in
    ap (λ (test : Bool). scan (cond test (Some End) (after_key b)) (key ++ 61 ∷ rest)) brace.1

body_scan : (pairs : List Pair) → AllByRecursion IsPair pairs → scan (Some Open) (body_text pairs) ≡ Some End
body_scan [] all = refl
body_scan (p ∷ ps) all =
    ap (λ (bytes : List ℕ). scan (Some Open) bytes) (append_assoc p.0 (61 ∷ p.1) (tail_text ps))
    ∙ open_key p.0 (p.1 ++ tail_text ps) all.0.key
    ∙ ap (λ (bytes : List ℕ). scan (Some Key) bytes) (sym (append_assoc p.0 (61 ∷ p.1) (tail_text ps)))
    ∙ pair_scan p (tail_text ps) all.0
    ∙ tail_scan ps all.1

braced : (pairs : List Pair) → pairs_text pairs ++ 125 ∷ [] ≡ body_text pairs
braced [] = refl
braced (p ∷ []) = refl
braced (p ∷ q ∷ ps) =
    append_assoc (pair_text p) (44 ∷ pairs_text (q ∷ ps)) (125 ∷ []) ∙ ap (λ (rest : List ℕ). pair_text p ++ 44 ∷ rest) (braced (q ∷ ps))

pub name_scanned : (text : List ℕ) → IsName text → ends_whole (scan start text) ≡ true
name_scanned text (service, pairs, is) = by is.text_is
  where
    size : 0 + length service ≤ most_service_bytes
    size = let short = is.service_is.short in omega arith

    some : nat_lt 0 (0 + length service) ≡ true
    some = lt-ltb 0 (0 + length service) (let more = is.service_is.some in omega arith)

    by : ((text ≡ service) × (pairs ≡ [])) ⊎ (text ≡ service ++ 123 ∷ (pairs_text pairs ++ 125 ∷ [])) → ends_whole (scan start text) ≡ true
    by (inl alone) =
        ap (λ (bytes : List ℕ). ends_whole (scan start bytes)) (alone.0 ∙ sym (append-nil service))
        ∙ ap ends_whole (service_scan service [] 0 is.service_is.plain size)
        ∙ some
    by (inr whole) =
        ap (λ (bytes : List ℕ). ends_whole (scan start bytes)) (whole ∙ ap (λ (rest : List ℕ). service ++ 123 ∷ rest) (braced pairs))
        ∙ ap ends_whole (service_scan service (123 ∷ body_text pairs) 0 is.service_is.plain size)
        ∙ ap (λ (test : Bool). ends_whole (scan (cond test (Some Open) None) (body_text pairs))) some
        ∙ ap ends_whole (body_scan pairs (recursion_from_All IsPair pairs is.pairs_are))

-- ---- what is read to its end is a name

-- what bytes that are read to the end of a name are, by what the first of them belongs to
abbrev Ends : Part → List ℕ → Type 0
Ends (Service n) bytes =
    (service : List ℕ) × (list_all (λ b. not (b == 123)) service ≡ true) × (n + length service ≤ most_service_bytes) × (0 < n + length service)
    × ((bytes ≡ service) ⊎ ((pairs : List Pair) × AllByRecursion IsPair pairs × (bytes ≡ service ++ 123 ∷ body_text pairs)))
Ends Open bytes = (pairs : List Pair) × AllByRecursion IsPair pairs × (bytes ≡ body_text pairs)
Ends Key bytes =
    (key : List ℕ) × (value : List ℕ) × (pairs : List Pair) × IsKey key × IsValue value × AllByRecursion IsPair pairs
    × (bytes ≡ key ++ 61 ∷ (value ++ tail_text pairs))
Ends Value bytes = (value : List ℕ) × (pairs : List Pair) × IsValue value × AllByRecursion IsPair pairs × (bytes ≡ value ++ tail_text pairs)
Ends End bytes = bytes ≡ []

abbrev Leads : Part → List ℕ → Type 0
Leads part bytes = ends_whole (scan (Some part) bytes) ≡ true → Ends part bytes

pair_joined : (key value rest : List ℕ) → key ++ 61 ∷ (value ++ rest) ≡ pair_text (key, value) ++ rest
pair_joined key value rest = sym (append_assoc key (61 ∷ value) rest)

at_value : (b : ℕ) (bytes : List ℕ) (comma brace : Bool) → (b == 44) ≡ comma → (b == 125) ≡ brace → Leads Key bytes → Leads End bytes → Leads Value bytes
    → ends_whole (scan (cond comma (Some Key) (cond brace (Some End) (Some Value))) bytes) ≡ true → Ends Value (b ∷ bytes)
at_value b bytes true brace is at key end value whole =
    let h = key whole in
    ([], (h.0, h.1) ∷ h.2, refl, (record { key = h.3; value = h.4 }, h.5), λ i. eqb-true b 44 is i ∷ (h.6 ∙ pair_joined h.0 h.1 (tail_text h.2)) i)
at_value b bytes false true is at key end value whole = let eq = end whole in ([], [], refl, tt, λ i. eqb-true b 125 at i ∷ eq i)
at_value b bytes false false is at key end value whole =
    let h = value whole in
    let plain : IsValue (b ∷ h.0) = rw (is, at) h.2 in (b ∷ h.0, h.1, plain, h.3, λ i. b ∷ h.4 i)

at_key : (b : ℕ) (bytes : List ℕ) (equals mark : Bool) → (b == 61) ≡ equals → (b == 44 || b == 125) ≡ mark → Leads Value bytes → Leads Key bytes
    → ends_whole (scan (cond equals (Some Value) (cond mark None (Some Key))) bytes) ≡ true → Ends Key (b ∷ bytes)
at_key b bytes true mark is at value key whole =
    let h = value whole in ([], h.0, h.1, refl, h.2, h.3, λ i. eqb-true b 61 is i ∷ h.4 i)
at_key b bytes false true is at value key whole = absurd (lost bytes whole)
at_key b bytes false false is at value key whole =
    let h = key whole in
    let plain : IsKey (b ∷ h.0) = rw (is, at) h.3 in (b ∷ h.0, h.1, h.2, plain, h.4, h.5, λ i. b ∷ h.6 i)

at_open : (b : ℕ) (bytes : List ℕ) (brace : Bool) → (b == 125) ≡ brace → Leads End bytes → (ends_whole (scan (after_key b) bytes) ≡ true → Ends Key (b ∷ bytes))
    → ends_whole (scan (cond brace (Some End) (after_key b)) bytes) ≡ true → Ends Open (b ∷ bytes)
at_open b bytes true is end key whole = let eq = end whole in ([], tt, λ i. eqb-true b 125 is i ∷ eq i)
at_open b bytes false is end key whole =
    let h = key whole in
    ((h.0, h.1) ∷ h.2, (record { key = h.3; value = h.4 }, h.5), h.6 ∙ pair_joined h.0 h.1 (tail_text h.2))

at_service : (n b : ℕ) (bytes : List ℕ) (brace some room : Bool) → n ≤ most_service_bytes → (b == 123) ≡ brace → nat_lt 0 n ≡ some → nat_lt n most_service_bytes ≡ room
    → Leads Open bytes → (n + 1 ≤ most_service_bytes → Leads (Service (n + 1)) bytes)
    → ends_whole (scan (cond brace (cond some (Some Open) None) (cond room (Some (Service (n + 1))) None)) bytes) ≡ true → Ends (Service n) (b ∷ bytes)
at_service n b bytes true true room short is more left body more_service whole =
    let h = body whole in
    let positive = ltb-true 0 n more in
    ([], refl, omega arith, omega arith, inr (h.0, h.1, λ i. eqb-true b 123 is i ∷ h.2 i))
at_service n b bytes true false room short is more left body more_service whole = absurd (lost bytes whole)
at_service n b bytes false some true short is more left body more_service whole =
    let below = ltb-true n most_service_bytes left in
    let h = more_service (omega arith) whole in
    let own : list_all (λ c. not (c == 123)) (b ∷ h.0) ≡ true = rw is h.1 in
    let size = h.2 in
    (b ∷ h.0, own, omega arith, omega arith, longer h.0 h.4)
  where
    longer : (service : List ℕ) → (bytes ≡ service) ⊎ ((pairs : List Pair) × AllByRecursion IsPair pairs × (bytes ≡ service ++ 123 ∷ body_text pairs))
        → (b ∷ bytes ≡ b ∷ service) ⊎ ((pairs : List Pair) × AllByRecursion IsPair pairs × (b ∷ bytes ≡ b ∷ (service ++ 123 ∷ body_text pairs)))
    longer service (inl eq) = inl (λ i. b ∷ eq i)
    longer service (inr (pairs, all, eq)) = inr (pairs, all, λ i. b ∷ eq i)
at_service n b bytes false some false short is more left body more_service whole = absurd (lost bytes whole)

abbrev Sized : Part → Type 0
Sized (Service n) = n ≤ most_service_bytes
Sized Open = Unit {0}
Sized Key = Unit {0}
Sized Value = Unit {0}
Sized End = Unit {0}

ends : (bytes : List ℕ) (part : Part) → Sized part → Leads part bytes
ends [] (Service n) sized whole = let positive = ltb-true 0 n whole in ([], refl, omega arith, omega arith, inl refl)
ends [] Open sized whole = absurd (true≢false (sym whole))
ends [] Key sized whole = absurd (true≢false (sym whole))
ends [] Value sized whole = absurd (true≢false (sym whole))
ends [] End sized whole = refl
ends (b ∷ bytes) (Service n) sized whole =
    at_service n b bytes (b == 123) (nat_lt 0 n) (nat_lt n most_service_bytes) sized refl refl refl (ends bytes Open tt) (λ room. ends bytes (Service (n + 1)) room) whole
ends (b ∷ bytes) Open sized whole =
    at_open b bytes (b == 125) refl (ends bytes End tt) (at_key b bytes (b == 61) (b == 44 || b == 125) refl refl (ends bytes Value tt) (ends bytes Key tt)) whole
ends (b ∷ bytes) Key sized whole = at_key b bytes (b == 61) (b == 44 || b == 125) refl refl (ends bytes Value tt) (ends bytes Key tt) whole
ends (b ∷ bytes) Value sized whole = at_value b bytes (b == 44) (b == 125) refl refl (ends bytes Key tt) (ends bytes End tt) (ends bytes Value tt) whole
ends (b ∷ bytes) End sized whole = absurd (lost bytes whole)

pub scanned_name : (text : List ℕ) → ends_whole (scan start text) ≡ true → IsName text
scanned_name text whole =
    let h = ends text (Service 0) (omega arith) whole in
    let short = h.2 in let some = h.3 in named h.0 h.1 (omega arith) (omega arith) h.4
  where
    named : (service : List ℕ) → list_all (λ b. not (b == 123)) service ≡ true → length service ≤ most_service_bytes → 0 < length service
        → (text ≡ service) ⊎ ((pairs : List Pair) × AllByRecursion IsPair pairs × (text ≡ service ++ 123 ∷ body_text pairs)) → IsName text
    named service plain short some (inl eq) =
        (service, [], record { service_is = record { some = some; short = short; plain = plain }; pairs_are = λ k d none. absurd (omega arith); text_is = inl (eq, refl) })
    named service plain short some (inr (pairs, all, eq)) = (
      service,
      pairs,
      record {
        service_is = record { some = some; short = short; plain = plain };
        pairs_are = All-from_recursion IsPair pairs all;
        text_is = inr (eq ∙ ap (λ (rest : List ℕ). service ++ 123 ∷ rest) (sym (braced pairs)));
      },
    )

-- ---- where a text breaks off

-- what ends a name that got so far
abbrev ending : Part → List ℕ
ending (Service zero) = 97 ∷ []
ending (Service (suc n)) = []
ending Open = 125 ∷ []
ending Key = 61 ∷ 125 ∷ []
ending Value = 125 ∷ []
ending End = []

ending_whole : (part : Part) → ends_whole (scan (Some part) (ending part)) ≡ true
ending_whole (Service zero) = refl
ending_whole (Service (suc n)) = lt-ltb 0 (suc n) (omega arith)
ending_whole Open = refl
ending_whole Key = refl
ending_whole Value = refl
ending_whole End = refl

scan-append : (part : Option Part) (front back : List ℕ) → scan part (front ++ back) ≡ scan (scan part front) back
scan-append part front back = fold-append then_byte part front back

begins : (front : List ℕ) (part : Part) → scan start front ≡ Some part → Begins IsName front
begins front part is = (
  ending part,
  scanned_name (front ++ ending part) (ap ends_whole (scan-append start front (ending part) ∙ ap (λ (p : Option Part). scan p (ending part)) is) ∙ ending_whole part),
)

no_name : (front back : List ℕ) → scan start front ≡ None → ¬ (IsName (front ++ back))
no_name front back none name =
    lost back (ap ends_whole (ap (λ (p : Option Part). scan p back) (sym none) ∙ sym (scan-append start front back)) ∙ name_scanned (front ++ back) name)

-- no byte may follow the first ones that lead nowhere
no_longer : (text : List ℕ) (at more : ℕ) → at < more → scan start (take (at + 1) text) ≡ None → ¬ (Begins IsName (take more text))
no_longer text at more later none (rest, name) =
    let front = take (at + 1) text in
    let cut : take more text ++ rest ≡ front ++ (drop (at + 1) (take more text) ++ rest) =
    ap (λ (xs : List ℕ). xs ++ rest) (sym (take-append-drop (at + 1) (take more text)))
    ∙ append_assoc (take (at + 1) (take more text)) (drop (at + 1) (take more text)) rest
    ∙ ap (λ (xs : List ℕ). xs ++ (drop (at + 1) (take more text) ++ rest)) (take-take (at + 1) more text (omega arith)) in
    no_name front (drop (at + 1) (take more text) ++ rest) none (rw cut at name)

-- a byte that no name goes on with
pub broken_within : (text : List ℕ) (at : ℕ) (part : Part) → at < length text → scan start (take at text) ≡ Some part → scan start (take (at + 1) text) ≡ None
    → (¬ (IsName text)) × BreaksAt IsName text at
broken_within text at part short so_far none = (
  λ name. no_name (take (at + 1) text) (drop (at + 1) text) none (rw (take-append-drop (at + 1) text) name),
  record {
    within = omega arith;
    begins = begins (take at text) part so_far;
    longest = λ more later inside. no_longer text at more later none;
  },
)

-- a text that ends too early
pub broken_end : (text : List ℕ) (at : ℕ) (part : Part) → length text ≤ at → scan start (take at text) ≡ Some part → is_whole part ≡ false
    → (¬ (IsName text)) × BreaksAt IsName text (length text)
broken_end text at part all so_far unfinished =
    let whole : take at text ≡ text = take_all at text all in
    let read : scan start text ≡ Some part = rw whole at so_far in (
      λ name. true≢false (sym (name_scanned text name) ∙ ap ends_whole read ∙ unfinished),
      record {
        within = omega arith;
        begins = let same : take (length text) text ≡ text = take_all (length text) text (omega arith) in rw same (begins text part read);
        longest = λ more later inside. absurd (omega arith);
      },
    )

pub whole_name : (text : List ℕ) (at : ℕ) (part : Part) → length text ≤ at → scan start (take at text) ≡ Some part → is_whole part ≡ true → IsName text
whole_name text at part all so_far is =
    let whole : take at text ≡ text = take_all at text all in
    let read : scan start text ≡ Some part = rw whole at so_far in scanned_name text (ap ends_whole read ∙ is)

-- one byte more
pub scan_more : (text : List ℕ) (at : ℕ) (part : Part) (next : Option Part) → at < length text → scan start (take at text) ≡ Some part
    → next ≡ next_part part (get_or text at 0) → scan start (take (at + 1) text) ≡ next
scan_more text at part next short so_far then =
    fold_more then_byte start text at 0 short ∙ ap (λ (p : Option Part). then_byte p (get_or text at 0)) so_far ∙ sym then
