-- The parts of a type's text, one after another.
use Rattle.std.proofs.Common.{◌≡◌, ◌==◌, ◌<◌, ◌≤◌, ℕ, Bool, true, false, cond, refl, List, [], ◌∷◌, length, take, ap, arith, Option, Some, None, Bor}
use Rattle.std.specs.Prelude.{◌≢◌, IfOk, MatchOption, Result, Ok, Err, not}
use Rattle.std.specs.List.{position_or_len, before_first, after_first}
use Rattle.std.proofs.lemmas.List.{get_or-take, length-take, take_all}
use Rattle.std.proofs.lemmas.List.Splits.{slice_split_first, slice_split_none, length-slice_split}
use Rattle.std.proofs.lemmas.List.Sums.{fails_before_first, list_all-from_AllPass}
use Rattle.profile_model.specs.CleanedTexts.{clean_byte, cleaned, is_mark}
use Rattle.profile_model.specs.Kinds.{IsPart, parts_of, is_colon}

-- a text up to its first colon, or any less of it, holds none
pub part_before : (text : List ℕ) (n : ℕ) → n ≤ position_or_len is_colon text → IsPart (take n text)
part_before text n below = list_all-from_AllPass (λ b. not (is_colon b)) (take n text) (λ k d short.
    let size = length-take n text in
    let inside : k < n = omega arith in
    rw (get_or-take n text k d inside) (ap not (fails_before_first is_colon text k d (omega arith))))

-- what a text was split into at its first colon, if it has one
abbrev pub Splits : List ℕ → Option (Bor (List ℕ) × Bor (List ℕ)) → Type 0
Splits text found = MatchOption found (position_or_len is_colon text ≡ length text)
    (λ x. (x.0.now ≡ before_first is_colon text) × (x.1.now ≡ after_first is_colon text) × (position_or_len is_colon text < length text))

pub split_parts : (text : List ℕ) (found : Option (Bor (List ℕ) × Bor (List ℕ))) → Splits text found
    → MatchOption found (parts_of text ≡ text ∷ []) (λ p. parts_of text ≡ p.0.now ∷ parts_of p.1.now)
split_parts text None none = slice_split_none is_colon text (λ k d short. fails_before_first is_colon text k d (omega arith))
split_parts text (Some x) (front, back, here) = rw (front, back) (slice_split_first is_colon text 0 here)

pub split_part : (text : List ℕ) (found : Option (Bor (List ℕ) × Bor (List ℕ))) → Splits text found
    → MatchOption found (IsPart text) (λ p. IsPart p.0.now)
split_part text None none =
    let all : length text ≤ length text = omega arith in rw take_all at (part_before text (length text) (omega arith))
split_part text (Some x) (front, back, here) = rw front (part_before text (position_or_len is_colon text) (omega arith))

-- a text with five colons has not five parts
pub more_than_five : (text one two three four five : List ℕ) (a b c d e : List ℕ)
    → parts_of text ≡ a ∷ parts_of one → parts_of one ≡ b ∷ parts_of two → parts_of two ≡ c ∷ parts_of three
    → parts_of three ≡ d ∷ parts_of four → parts_of four ≡ e ∷ parts_of five → length (parts_of text) ≢ 5
more_than_five text one two three four five a b c d e h1 h2 h3 h4 h5 =
    let l1 = ap length h1 in let l2 = ap length h2 in let l3 = ap length h3 in let l4 = ap length h4 in let l5 = ap length h5 in
    let last = length-slice_split is_colon five in λ same. omega arith

-- a text without marks is a part
no_colon : (b : ℕ) → not (is_colon (clean_byte b)) ≡ true
no_colon b = by (b == 58) refl
  where
    by : (c : Bool) → (b == 58) ≡ c → not (is_colon (clean_byte b)) ≡ true
    by true is = rw is refl
    by false is = elim (is_mark b) as (λ (mark : Bool). not (is_colon (cond mark 95 b)) ≡ true) [ true ↦ refl | false ↦ rw is refl ]

pub cleaned_part : (text : List ℕ) → IsPart (cleaned text)
cleaned_part [] = refl
cleaned_part (b ∷ bytes) = rw (no_colon b) (cleaned_part bytes)

pub cleaned_name : {E : Type 0} (text : List ℕ) (made : Result (List ℕ) E) → IfOk made (λ name. name ≡ cleaned text) → IfOk made IsPart
cleaned_name text (Ok name) is = rw is (cleaned_part text)
cleaned_name text (Err e) is = tt
