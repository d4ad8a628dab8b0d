-- How many newline bytes a head has.
use Rattle.std.proofs.Common.{◌≡◌, ℕ, ◌+◌, ◌≤◌, ◌<◌, ◌==◌, List, [], ◌∷◌, ◌++◌, length, take, drop, refl, sym, subst, ap, ◌∙◌, arith, append_assoc, append-nil, length-append, Bool, true, false, cond, zero-add, ⊎_elim}
use Rattle.std.proofs.lemmas.Bool.{false_from_ne_true, true≢false, eqb-true, or_cases, cases_lt}
use Rattle.std.specs.List.{flat_map, All}
use Rattle.std.proofs.lemmas.List.{take_at, take-append-le, take-append-drop}
use Rattle.std.proofs.lemmas.List.Elements.{All-head, All-tail}
use Rattle.httparse.specs.Ascii.{line_feed, carriage_return, space, colon}
use Rattle.httparse.specs.Grammar.{RequestHead, LineEnd, crlf, lf, print_end, print_blank, print_version, Field, print_field, print_section, print_request, is_token_byte, is_uri_byte, is_value_byte, AllPass, IsField, IsRequestHead, ReadsRequest}
use Rattle.httparse.specs.Spans.{RequestExceeds}
use Rattle.http_session.specs.Limits.{most_head_lines, most_headers}
use Rattle.http_session.specs.Heads.{is_line_byte, after_lines, newlines}

newlines-append : (a b : List ℕ) → newlines (a ++ b) ≡ newlines a + newlines b
newlines-append [] b = sym (zero-add (newlines b))
newlines-append (x ∷ a) b = let later = newlines-append a b in omega arith

pub after-append : (a b : List ℕ) → newlines (after_lines a) ≤ newlines (after_lines (a ++ b))
after-append [] b = omega arith
after-append (x ∷ a) b = by (is_line_byte x) (after-append a b) (newlines-append a b)
  where
    by : (line : Bool) → newlines (after_lines a) ≤ newlines (after_lines (a ++ b)) → newlines (a ++ b) ≡ newlines a + newlines b →
        newlines (cond line (after_lines a) (x ∷ a)) ≤ newlines (cond line (after_lines (a ++ b)) (x ∷ (a ++ b)))
    by true later count = later
    by false later count = omega arith

after-one : (a : List ℕ) → newlines (after_lines (a ++ line_feed ∷ [])) ≤ newlines (after_lines a) + 1
after-one [] = omega arith
after-one (x ∷ a) = by (is_line_byte x) (after-one a) (newlines-append a (line_feed ∷ []))
  where
    by : (line : Bool) → newlines (after_lines (a ++ line_feed ∷ [])) ≤ newlines (after_lines a) + 1 →
        newlines (a ++ line_feed ∷ []) ≡ newlines a + 1 →
        newlines (cond line (after_lines (a ++ line_feed ∷ [])) (x ∷ (a ++ line_feed ∷ []))) ≤ newlines (cond line (after_lines a) (x ∷ a)) + 1
    by true later count = later
    by false later count = omega arith

-- a newline behind others is one more
after-feed : (a : List ℕ) → 0 < newlines (after_lines a) → newlines (after_lines (a ++ line_feed ∷ [])) ≡ newlines (after_lines a) + 1
after-feed [] some = absurd (omega (arith, some))
after-feed (x ∷ a) some = by (is_line_byte x) (after-feed a) (newlines-append a (line_feed ∷ [])) some
  where
    by : (line : Bool) → (0 < newlines (after_lines a) → newlines (after_lines (a ++ line_feed ∷ [])) ≡ newlines (after_lines a) + 1) →
        newlines (a ++ line_feed ∷ []) ≡ newlines a + 1 → 0 < newlines (cond line (after_lines a) (x ∷ a)) →
        newlines (cond line (after_lines (a ++ line_feed ∷ [])) (x ∷ (a ++ line_feed ∷ []))) ≡ newlines (cond line (after_lines a) (x ∷ a)) + 1
    by true later count some = later some
    by false later count some = omega (arith, count)

one_newline : (e : LineEnd) → newlines (print_end e) ≡ 1
one_newline crlf = refl
one_newline lf = refl

cr_no_token : is_token_byte carriage_return ≡ false
unfolding is_token_byte
cr_no_token = refl

lf_no_token : is_token_byte line_feed ≡ false
unfolding is_token_byte
lf_no_token = refl

-- bytes of a class that no newline is of
no_newlines : (test : ℕ → Bool) (bytes : List ℕ) → test line_feed ≡ false → AllPass test bytes → newlines bytes ≡ 0
no_newlines test [] other all = refl
no_newlines test (b ∷ bytes) other all =
    let P : ℕ → Type 0 = λ x. test x ≡ true in
    let here : (b == line_feed) ≡ false =
    false_from_ne_true (b == line_feed) (λ e. true≢false (sym (subst P (eqb-true b line_feed e) (All-head P b bytes all)) ∙ other)) in
    rw (here, no_newlines test bytes other (All-tail P b bytes all)) refl

fields_newlines : (fields : List Field) → All IsField fields → newlines (flat_map print_field fields) ≡ length fields
fields_newlines [] all = refl
fields_newlines (f ∷ fields) all =
    let is = All-head IsField f fields all in
    let later = fields_newlines fields (All-tail IsField f fields all) in
    let parts = newlines-append (print_field f) (flat_map print_field fields) in
    let line = newlines-append (f.name ++ colon ∷ f.raw) (print_end f.end) in
    let both = newlines-append f.name (colon ∷ f.raw) in
    let name = no_newlines is_token_byte f.name lf_no_token is.name.1 in
    let raw = no_newlines is_value_byte f.raw refl is.raw in
    let one = one_newline f.end in omega arith

version_newlines : (minor : ℕ) → minor ≤ 1 → newlines (print_version minor) ≡ 0
version_newlines minor small =
    let P : ℕ → Type 0 = λ n. newlines (print_version n) ≡ 0 in
    ⊎_elim (λ (low : minor < 1). let none : 0 ≡ minor = omega arith in subst P none refl)
    (λ (high : 1 ≤ minor). let one : 1 ≡ minor = omega arith in subst P one refl)
    (cases_lt minor 1)

pub token_no_line : (b : ℕ) → is_token_byte b ≡ true → is_line_byte b ≡ false
token_no_line b token =
    let P : ℕ → Type 0 = λ x. is_token_byte x ≡ true in
    false_from_ne_true (is_line_byte b) (λ line. ⊎_elim
    (λ e. true≢false (sym (subst P (eqb-true b carriage_return e) token) ∙ cr_no_token))
    (λ e. true≢false (sym (subst P (eqb-true b line_feed e) token) ∙ lf_no_token))
    (or_cases (b == carriage_return) (b == line_feed) line))

pub after_blank : (ends : List LineEnd) (b : ℕ) (tail : List ℕ) → is_line_byte b ≡ false →
    after_lines (print_blank ends ++ b ∷ tail) ≡ b ∷ tail
after_blank [] b tail other = rw other refl
after_blank (crlf ∷ ends) b tail other = after_blank ends b tail other
after_blank (lf ∷ ends) b tail other = after_blank ends b tail other

-- a list in six pieces, grouped the other way
regroup : (a b c d e f : List ℕ) → a ++ b ++ c ++ d ++ e ++ f ≡ (a ++ b) ++ (c ++ (d ++ (e ++ f)))
regroup a b c d e f =
    append_assoc (a ++ b ++ c ++ d) e f ∙ append_assoc (a ++ b ++ c) d (e ++ f) ∙ append_assoc (a ++ b) c (d ++ (e ++ f))

-- a first byte, and those after it
pub first_of : (word : List ℕ) → 0 < length word → (b : ℕ) × (tail : List ℕ) × (word ≡ b ∷ tail)
first_of [] long = absurd (omega arith)
first_of (b ∷ tail) long = (b, tail, refl)

-- those of a head, but for the leading lines, are one for each header and two more
head_newlines : (h : RequestHead) → IsRequestHead h → newlines (after_lines (print_request h)) ≡ length h.fields + 2
unfolding print_request
head_newlines h is =
    let (b, method, method_is) = first_of h.method is.method.0 in
    let P : ℕ → Type 0 = λ x. is_token_byte x ≡ true in
    let Q : List ℕ → Type 0 = λ w. All P w in
    let token : All P (b ∷ method) = subst Q method_is is.method.1 in
    let line = space ∷ h.target in
    let version = space ∷ print_version h.minor in
    let ends = print_end h.line_end in
    let section = print_section h.fields h.last in
    let tail = line ++ (version ++ (ends ++ section)) in
    let text : print_request h ≡ print_blank h.blank ++ b ∷ (method ++ tail) =
    regroup (print_blank h.blank) h.method line version ends section
    ∙ ap (λ (xs : List ℕ). (print_blank h.blank ++ xs) ++ tail) method_is ∙ append_assoc (print_blank h.blank) (b ∷ method) tail in
    let cut = after_blank h.blank b (method ++ tail) (token_no_line b (All-head P b method token)) in
    let n1 = newlines-append (b ∷ method) tail in
    let n2 = newlines-append line (version ++ (ends ++ section)) in
    let n3 = newlines-append version (ends ++ section) in
    let n4 = newlines-append ends section in
    let n5 = newlines-append (flat_map print_field h.fields) (print_end h.last) in
    let none = no_newlines is_token_byte (b ∷ method) lf_no_token token in
    let target = no_newlines is_uri_byte h.target refl is.target.1 in
    let number = version_newlines h.minor is.minor in
    let many = fields_newlines h.fields is.fields in
    let one = one_newline h.line_end in
    let last = one_newline h.last in
    let here : newlines (b ∷ (method ++ tail)) ≡ length h.fields + 2 = omega arith in
    rw (text, cut) here

-- where httparse counts too many headers, the newline bytes of as many lines as a head may have have come
pub exceeds_newlines : (bytes : List ℕ) → RequestExceeds most_headers bytes → most_head_lines ≤ newlines (after_lines bytes)
exceeds_newlines bytes (front, rest, is, head, reads, over) =
    let text : front ++ line_feed ∷ [] ≡ print_request head = reads.1 ∙ append-nil (print_request head) in
    let many = head_newlines head reads.0 in
    let whole : newlines (after_lines (front ++ line_feed ∷ [])) ≡ length head.fields + 2 =
    let P : List ℕ → Type 0 = λ t. newlines (after_lines t) ≡ length head.fields + 2 in subst P (sym text) many in
    let one = after-one front in
    let more = after-append front rest in
    let all : newlines (after_lines front) ≤ newlines (after_lines bytes) =
    let P : List ℕ → Type 0 = λ t. newlines (after_lines front) ≤ newlines (after_lines t) in subst P (sym is) more in
    omega arith

-- a head's last byte is a newline
end_feed : (e : LineEnd) → (front : List ℕ) × (print_end e ≡ front ++ line_feed ∷ [])
end_feed crlf = (carriage_return ∷ [], refl)
end_feed lf = ([], refl)

last_feed : (h : RequestHead) → (front : List ℕ) × (print_request h ≡ front ++ line_feed ∷ [])
unfolding print_request
last_feed h =
    let (front, is) = end_feed h.last in
    let start = print_blank h.blank ++ h.method ++ space ∷ h.target ++ space ∷ print_version h.minor ++ print_end h.line_end in
    let fields = flat_map print_field h.fields in (
      start ++ (fields ++ front),
      ap (λ (xs : List ℕ). start ++ (fields ++ xs)) is
          ∙ ap (λ (xs : List ℕ). start ++ xs) (sym (append_assoc fields front (line_feed ∷ [])))
          ∙ sym (append_assoc start (fields ++ front) (line_feed ∷ [])),
    )

-- a list that another begins with
front_of : (xs ys more rest : List ℕ) → xs ++ more ≡ ys ++ rest → length xs ≤ length ys → ys ≡ xs ++ drop (length xs) ys
front_of xs ys more rest is short =
    let n = length xs in
    let front : take n ys ≡ xs = sym (take-append-le n ys rest short) ∙ ap (λ (zs : List ℕ). take n zs) (sym is) ∙ take_at xs more n refl in
    sym (take-append-drop n ys) ∙ ap (λ (zs : List ℕ). zs ++ drop n ys) front

-- behind so many newline bytes no head within its limits goes on
pub head_has_come : (bytes more : List ℕ) (head : RequestHead) (rest : List ℕ) → most_head_lines ≤ newlines (after_lines bytes) → length head.fields ≤ most_headers →
    ReadsRequest (bytes ++ more) head rest → (left : List ℕ) × ReadsRequest bytes head left
head_has_come bytes more head rest many few reads =
    let text = print_request head in
    ⊎_elim
    (λ (inside : length bytes < length text). let (front, is) = last_feed head in
    let size : length text ≡ length front + 1 = ap length is ∙ length-append front (line_feed ∷ []) in
    let all : bytes ++ more ≡ front ++ (line_feed ∷ rest) = reads.1 ∙ ap (λ (xs : List ℕ). xs ++ rest) is ∙ append_assoc front (line_feed ∷ []) rest in
    let begins = front_of bytes front more (line_feed ∷ rest) all (omega (arith, inside, size)) in
    let P : List ℕ → Type 0 = λ xs. newlines (after_lines bytes) ≤ newlines (after_lines xs) in
    let most : newlines (after_lines bytes) ≤ newlines (after_lines front) = subst P (sym begins) (after-append bytes (drop (length bytes) front)) in
    let one = after-feed front (omega (arith, many, most)) in
    let count = ap (λ (xs : List ℕ). newlines (after_lines xs)) (sym is) ∙ head_newlines head reads.0 in
    absurd (omega (arith, many, most, one, count, few)))
    (λ (whole : length text ≤ length bytes). (drop (length text) bytes, (reads.0, front_of text bytes rest more (sym reads.1) whole)))
    (cases_lt (length bytes) (length text))
