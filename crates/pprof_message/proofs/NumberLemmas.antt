-- The last numbers of a message's fields.
use Rattle.std.proofs.Common.{◌≡◌, ℕ, ℤ, w64, to_z, of_z, zero, suc, ◌<◌, List, [], ◌∷◌, ◌++◌, length, get_or, set, eqb, cond, eq-eqb, Option, Some, None, refl, sym, ap, ◌∙◌, inl, inr, arith}
use Rattle.std.specs.List.{filter_map, cons_option}
use Rattle.std.specs.Option.{option_map_or}
use Rattle.std.proofs.lemmas.Bool.{cases_eq, ne_eqb, cond_both}
use Rattle.std.proofs.lemmas.List.{length-set, get_or-set_same, get_or-set_other}
use Rattle.std.proofs.lemmas.Int.{to_z-of_z}
use lib.Signed.{mag}
use Rattle.pprof_message.specs.Messages.{int64}
use Rattle.wire_proto.specs.Message.{WireField}
use Rattle.pprof_message.specs.Fields.{number_in, number_of, last_of, singular}
use Rattle.pprof_message.specs.Numbers.{with_number, last_numbers}

kept : ℕ → List ℕ → Option ℕ → List ℕ
kept number numbers held = option_map_or (λ n. set numbers number n) held numbers

length-kept : (number : ℕ) (numbers : List ℕ) (held : Option ℕ) → length (kept number numbers held) ≡ length numbers
unfolding kept
length-kept number numbers None = refl
length-kept number numbers (Some n) = length-set numbers number n

pub length-with_number : (numbers : List ℕ) (f : WireField) → length (with_number numbers f) ≡ length numbers
unfolding kept
length-with_number numbers f = length-kept f.number numbers (number_in f.value)

-- the number at k, after one more field
kept-at : (number : ℕ) (numbers : List ℕ) (held : Option ℕ) (k : ℕ) (rest : List ℕ) → k < length numbers
    → last_of (get_or (kept number numbers held) k 0) rest ≡ last_of (get_or numbers k 0) (cons_option (cond (eqb number k) held None) rest)
unfolding kept
kept-at number numbers None k rest lt = cond_both (eqb number k) None None (λ o. last_of (get_or numbers k 0) rest ≡ last_of (get_or numbers k 0) (cons_option o rest)) (λ _. refl) (λ _. refl)
kept-at number numbers (Some n) k rest lt =
    elim (cases_eq number k) [
      | inl e ↦ rw (e, eq-eqb k k refl, get_or-set_same numbers k n 0 lt) refl
      | inr ne ↦ rw (ne_eqb number k ne, get_or-set_other numbers number k n 0 (λ e. ne (sym e))) refl
    ]

pub last_numbers-at : (numbers : List ℕ) (fs : List WireField) (k : ℕ) → k < length numbers → get_or (last_numbers numbers fs) k 0 ≡ last_of (get_or numbers k 0) (filter_map (number_of k) fs)
unfolding kept
last_numbers-at numbers [] k lt = refl
last_numbers-at numbers (f ∷ fs) k lt =
    let len = length-with_number numbers f in
    last_numbers-at (with_number numbers f) fs k (omega arith) ∙ kept-at f.number numbers (number_in f.value) k (filter_map (number_of k) fs) lt

pub last_numbers-append : (numbers : List ℕ) (fs gs : List WireField) → last_numbers numbers (fs ++ gs) ≡ last_numbers (last_numbers numbers fs) gs
last_numbers-append numbers [] gs = refl
last_numbers-append numbers (f ∷ fs) gs = last_numbers-append (with_number numbers f) fs gs

abbrev pub no_numbers : List ℕ
no_numbers = 0 ∷ 0 ∷ 0 ∷ 0 ∷ 0 ∷ 0 ∷ []

zero_at : (k : ℕ) → k < 6 → get_or no_numbers k 0 ≡ 0
zero_at zero lt = refl
zero_at (suc zero) lt = refl
zero_at (suc (suc zero)) lt = refl
zero_at (suc (suc (suc zero))) lt = refl
zero_at (suc (suc (suc (suc zero)))) lt = refl
zero_at (suc (suc (suc (suc (suc zero))))) lt = refl
zero_at (suc (suc (suc (suc (suc (suc k)))))) lt = refl

pub singular_of : (numbers : List ℕ) (fields : List WireField) (k : ℕ) → numbers ≡ last_numbers no_numbers fields → k < 6 → get_or numbers k 0 ≡ singular k fields
singular_of numbers fields k e lt =
    ap (λ (ns : List ℕ). get_or ns k 0) e ∙ last_numbers-at no_numbers fields k lt ∙ ap (λ (n : ℕ). last_of n (filter_map (number_of k) fields)) (zero_at k lt)

-- as a number in two's complement, which the code reads through its bits
pub int64_of : (z : ℤ) (numbers : List ℕ) (fields : List WireField) (k : ℕ) → mag z < 9223372036854775808 → z ≡ to_z w64 (get_or numbers k 0) → numbers ≡ last_numbers no_numbers fields → k < 6
    → to_z w64 (of_z w64 z) ≡ int64 (singular k fields)
int64_of z numbers fields k fits is e lt = to_z-of_z w64 z (record { sfits = fits }) ∙ is ∙ ap int64 (singular_of numbers fields k e lt)
