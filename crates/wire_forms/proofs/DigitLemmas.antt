-- Digits as numbers.
use Rattle.std.proofs.Common.{◌≡◌, ℕ, ◌-◌, ◌^◌, ◌<◌, ◌≤◌, List, [], ◌∷◌, length, get_or, true, false, Bool, sym, ap, cond, min, nat_le, Some, None, ◌∙◌, arith, lit<}
use Rattle.std.specs.Prelude.{◌&&◌}
use Rattle.std.specs.Char.{digit_value, is_ascii_digit}
use Rattle.std.specs.Cmp.{first_so, second_so}
use Rattle.std.specs.List.{list_all}
use Rattle.std.specs.Str.Parse.{AllDigits, digits_value}
use Rattle.std.proofs.Math.Nat.{pow-le-pow_right}
use Rattle.std.proofs.lemmas.Int.Digits.{digits_value-lt}
use Rattle.std.proofs.lemmas.List.Folds.{list_all_at}
use Rattle.std.proofs.lemmas.Bool.{true≢false, leb-true}
use Rattle.wire_forms.specs.Digits.{are_digits, number_of}
use Rattle.std.proofs.lemmas.Bool.Decides.{nat_tests}

-- the number that an ASCII digit writes
digit_value_is : (c : ℕ) → is_ascii_digit c ≡ true → digit_value c ≡ c - 48
digit_value_is c digit = grind (arith, nat_tests)

digit_value-lt : (c : ℕ) → is_ascii_digit c ≡ true → digit_value c < 10
digit_value-lt c digit = grind (arith, nat_tests)

-- each of some digits writes its number
pub digit_at : (digits : List ℕ) (i : ℕ) → i < length digits → list_all is_ascii_digit digits ≡ true → digit_value (get_or digits i 0) ≡ get_or digits i 0 - 48
digit_at digits i within all = by (is_ascii_digit (get_or digits i 0)) (digit_value_is (get_or digits i 0)) (list_all_at is_ascii_digit digits i 0 within)
  where
    by : (b : Bool) → (b ≡ true → digit_value (get_or digits i 0) ≡ get_or digits i 0 - 48) → (b ≡ false → list_all is_ascii_digit digits ≡ false) →
        digit_value (get_or digits i 0) ≡ get_or digits i 0 - 48
    by true here there = here (λ i. true)
    by false here there = absurd (true≢false (sym all ∙ there (λ i. false)))

all_digits : (digits : List ℕ) → list_all is_ascii_digit digits ≡ true → AllDigits 10 digits
all_digits [] all = tt
all_digits (c ∷ digits) all = (
  digit_value-lt c (first_so (is_ascii_digit c) (list_all is_ascii_digit digits) all),
  all_digits digits (second_so (is_ascii_digit c) (list_all is_ascii_digit digits) all),
)

-- so many digits write a number below that power of 10
pub digits_value-small : (digits : List ℕ) → list_all is_ascii_digit digits ≡ true → digits_value 10 digits < 10 ^ length digits
digits_value-small digits all = digits_value-lt 10 digits (all_digits digits all)

pub power-le : (k most : ℕ) → k ≤ most → 10 ^ k ≤ 10 ^ most
power-le k most le = pow-le-pow_right (lit< tt) le

-- so many digits as fit are read as their number
pub digits_read : (most : ℕ) (text : List ℕ) (value : ℕ) → are_digits most text ≡ true → most ≤ 19 → value ≡ min (digits_value 10 text) (2 ^ 64 - 1)
    → (Some value ≡ number_of most text) × (value < 10 ^ length text)
digits_read most text value are few is =
    let sized = first_so (nat_le 1 (length text) && nat_le (length text) most) (list_all is_ascii_digit text) are in
    let all = second_so (nat_le 1 (length text) && nat_le (length text) most) (list_all is_ascii_digit text) are in
    let short : length text ≤ most = leb-true (length text) most (second_so (nat_le 1 (length text)) (nat_le (length text) most) sized) in
    let small = digits_value-small text all in
    let power = power-le (length text) 19 (omega arith) in
    let same : value ≡ digits_value 10 text = omega arith in
    (ap Some same ∙ sym (ap (λ (b : Bool). cond b (Some (digits_value 10 text)) None) are), omega arith)
