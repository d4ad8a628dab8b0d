-- Writing a stack frame by frame.
use Rattle.std.proofs.Common.{◌≡◌, ℕ, ◌+◌, ◌<◌, List, [], ◌∷◌, ◌++◌, length, map, take, get_or, refl, sym, ap, ◌∙◌, arith}
use Rattle.std.specs.Prelude.{decimal}
use Rattle.std.specs.List.{join_with_byte, sum_by}
use Rattle.std.proofs.lemmas.List.{append_assoc, map-append, length-map, take_more, length-take-le, length-append}
use Rattle.std.proofs.lemmas.List.Sums.{sum_by-cons}
use Rattle.folded_reader.specs.Written.{written_byte, written_stack, written_line}

pub join-push : (c : ℕ) (xs : List (List ℕ)) (y : List ℕ) → 0 < length xs → join_with_byte c (xs ++ y ∷ []) ≡ join_with_byte c xs ++ c ∷ y
join-push c [] y some = absurd (omega arith)
join-push c (x ∷ []) y some = refl
join-push c (x ∷ z ∷ zs) y some =
    ap (λ rest. x ++ c ∷ rest) (join-push c (z ∷ zs) y (omega arith)) ∙ sym (append_assoc x (c ∷ join_with_byte c (z ∷ zs)) (c ∷ y))

-- the first frame
pub first_frame : (old text : List ℕ) (all : List (List ℕ)) (at : ℕ) (frame : List ℕ) → at < length all → frame ≡ get_or all at frame
    → at ≡ 0 → text ≡ old ++ written_stack (take at all) → text ++ map written_byte frame ≡ old ++ written_stack (take (at + 1) all)
first_frame old text all at frame within is zero_is held =
    let none : take at all ≡ [] = ap (λ n. take n all) zero_is in
    let one : take (at + 1) all ≡ frame ∷ [] = take_more all at frame within ∙ (λ i. none i ++ sym is i ∷ []) in
    ap (λ t. t ++ map written_byte frame) (held ∙ ap (λ f. old ++ written_stack f) none)
    ∙ append_assoc old [] (map written_byte frame) ∙ ap (λ f. old ++ written_stack f) (sym one)

-- a later frame, which stands behind a ';'
pub later_frame : (old text : List ℕ) (all : List (List ℕ)) (at : ℕ) (frame : List ℕ) → at < length all → frame ≡ get_or all at frame
    → 0 < at → text ≡ old ++ written_stack (take at all) → (text ++ 59 ∷ []) ++ map written_byte frame ≡ old ++ written_stack (take (at + 1) all)
later_frame old text all at frame within is some held =
    let before = take at all in
    let written = map (λ f. map written_byte f) before in
    let count : length written ≡ at = length-map before (λ f. map written_byte f) ∙ length-take-le at all (omega arith) in
    let more : take (at + 1) all ≡ before ++ frame ∷ [] = take_more all at frame within ∙ ap (λ f. before ++ f ∷ []) (sym is) in
    let joined : written_stack (take (at + 1) all) ≡ written_stack before ++ 59 ∷ map written_byte frame =
    ap written_stack more ∙ ap (join_with_byte 59) (map-append (λ f. map written_byte f) before (frame ∷ []))
    ∙ join-push 59 written (map written_byte frame) (omega arith) in
    append_assoc text (59 ∷ []) (map written_byte frame) ∙ ap (λ t. t ++ 59 ∷ map written_byte frame) held
    ∙ append_assoc old (written_stack before) (59 ∷ map written_byte frame) ∙ ap (λ t. old ++ t) (sym joined)

-- ---- how long a line is

length-join : (c : ℕ) (fs : List (List ℕ)) → 0 < length fs → length (join_with_byte c fs) + 1 ≡ sum_by (λ f. length f + 1) fs
length-join c [] some = absurd (omega arith)
length-join c (x ∷ []) some = let all = sum_by-cons (λ (f : List ℕ). length f + 1) x [] in omega arith
length-join c (x ∷ y ∷ zs) some =
    let rest = length-join c (y ∷ zs) (omega arith) in
    let all = sum_by-cons (λ (f : List ℕ). length f + 1) x (y ∷ zs) in
    let parts = length-append x (c ∷ join_with_byte c (y ∷ zs)) in omega arith

sum-written : (fs : List (List ℕ)) → sum_by (λ f. length f + 1) (map (λ f. map written_byte f) fs) ≡ sum_by (λ f. length f + 1) fs
sum-written [] = refl
sum-written (x ∷ xs) =
    let written = sum_by-cons (λ (f : List ℕ). length f + 1) (map written_byte x) (map (λ f. map written_byte f) xs) in
    let plain = sum_by-cons (λ (f : List ℕ). length f + 1) x xs in
    let one = length-map x written_byte in
    let rest = sum-written xs in omega arith

-- each frame takes a byte more than it has, for the ';' or the space behind it
pub length-written_line : (stack : List (List ℕ)) (value : ℕ) → 0 < length stack
    → length (written_line (stack, value)) ≡ length (decimal value) + 1 + sum_by (λ f. length f + 1) stack
length-written_line stack value some =
    let written = map (λ f. map written_byte f) stack in
    let count = length-map stack (λ f. map written_byte f) in
    let frames = length-join 59 written (omega arith) in
    let same = sum-written stack in
    let body = length-append (written_stack stack) (32 ∷ decimal value) in
    let line = length-append (written_stack stack ++ 32 ∷ decimal value) (10 ∷ []) in omega arith
