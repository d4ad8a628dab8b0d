-- The numbers that short texts of digits write.
use Rattle.std.proofs.Common.{◌≡◌, ℕ, ◌<◌, ◌≤◌, ◌&&◌, List, [], ◌∷◌, length, true, false, true≢false, Bool, nat_lt, nat_le, Result, Ok, refl, sym, ap, arith}
use Rattle.std.proofs.lemmas.Bool.{ltb-true, leb-true}
use Rattle.json_bodies.specs.Fields.{is_number_text}
use Rattle.std.specs.Char.{is_ascii_digit}
use Rattle.std.specs.List.{list_all}
use Rattle.std.specs.Str.{all_ascii_digits}
use Rattle.std.specs.Str.Parse.{ParsesUnsigned, digits_value}
use Rattle.std.proofs.lemmas.Str.Parse.{IsNumeralModel, numerals_by_value, tells_all_ascii_digits, digits_value_short, parse_gives}

all_digits : (text : List ℕ) → list_all is_ascii_digit text ≡ all_ascii_digits text
all_digits [] = refl
all_digits (b ∷ text) = ap (λ rest. is_ascii_digit b && rest) (all_digits text)

numerals : IsNumeralModel (λ text. all_ascii_digits text ≡ true) (digits_value 10)
numerals = numerals_by_value _ tells_all_ascii_digits

-- 1 to 19 digits are read as their number
short_digits_read : {E : Type 0} (text : List ℕ) (r : Result ℕ E) → ParsesUnsigned 64 10 text r
    → 0 < length text → length text ≤ 19 → list_all is_ascii_digit text ≡ true → r ≡ Ok (digits_value 10 text)
short_digits_read text r parses some short digits =
    let all : all_ascii_digits text ≡ true = rw all_digits at digits in
    parse_gives numerals 64 text r parses all some (omega (arith, digits_value_short numerals text 19 all short))

both : (a b : Bool) → (a && b) ≡ true → (a ≡ true) × (b ≡ true)
both true true e = (refl, refl)
both true false e = absurd (true≢false (sym e))
both false b e = absurd (true≢false (sym e))

pub number_text_read : {E : Type 0} (text : List ℕ) (r : Result ℕ E) → ParsesUnsigned 64 10 text r
    → is_number_text text ≡ true → r ≡ Ok (digits_value 10 text)
number_text_read text r parses right =
    let first = both (nat_lt 0 (length text) && nat_le (length text) 19) (list_all is_ascii_digit text) right in
    let sizes = both (nat_lt 0 (length text)) (nat_le (length text) 19) first.0 in
    short_digits_read text r parses (ltb-true 0 (length text) sizes.0) (leb-true (length text) 19 sizes.1) first.1
