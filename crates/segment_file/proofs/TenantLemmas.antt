-- A tenant's name is UTF-8.
use Rattle.std.proofs.Common.{◌≡◌, ℕ, ◌+◌, ◌<◌, ◌≤◌, suc, Bool, true, false, List, [], ◌∷◌, length, take, cond, refl, sym, ap, ◌∙◌, arith}
use Rattle.std.specs.Prelude.{Option, Some, None, nat_lt, not, position, if◌then◌else◌}
use Rattle.std.specs.List.{prefix_len}
use Rattle.std.specs.Option.{option_or}
use Rattle.std.specs.Str.{IsAscii, IsUtf8}
use Rattle.std.proofs.lemmas.Bool.{ltb-false}
use Rattle.std.proofs.lemmas.Bool.Decides.{nat_tests}
use Rattle.std.proofs.lemmas.List.{take_all}
use Rattle.std.proofs.lemmas.Str.{IsUtf8-from_ascii}
use Rattle.std.proofs.lemmas.Str.Ascii.{IsAscii-cons, IsAscii-nil}
use Rattle.profile_model.specs.TenantPlaces.{is_dots, is_tenant_byte, wrong_place}

tenant_byte_ascii : (b : ℕ) → is_tenant_byte b ≡ true → b < 128
tenant_byte_ascii b is = grind (arith, nat_tests)

ascii_by : (b : ℕ) (bytes : List ℕ) (is : Bool) → is ≡ is_tenant_byte b → (length bytes ≤ prefix_len (λ c. not (not (is_tenant_byte c))) bytes → IsAscii bytes)
    → suc (length bytes) ≤ cond (not (not is)) (1 + prefix_len (λ c. not (not (is_tenant_byte c))) bytes) 0 → IsAscii (b ∷ bytes)
ascii_by b bytes true is rest long = IsAscii-cons b bytes (tenant_byte_ascii b (sym is)) (rest (omega (arith, long)))
ascii_by b bytes false is rest long = absurd (omega (arith, long))

ascii_from_prefix : (bytes : List ℕ) → length bytes ≤ prefix_len (λ b. not (not (is_tenant_byte b))) bytes → IsAscii bytes
ascii_from_prefix [] long = IsAscii-nil
ascii_from_prefix (b ∷ bytes) long = ascii_by b bytes (is_tenant_byte b) refl (ascii_from_prefix bytes) long

-- neither of two is there
neither : {A : Type 0} (first second : Option A) → option_or first second ≡ None → (first ≡ None) × (second ≡ None)
neither None second is = (refl, is)
neither (Some x) second is = absurd cc

not_chosen : {A : Type 0} (b : Bool) (x : A) (rest : Option A) → cond b (Some x) rest ≡ None → b ≡ false
not_chosen true x rest is = absurd cc
not_chosen false x rest is = refl

-- at most 150 bytes
pub tenant_few : (tenant : List ℕ) → wrong_place tenant ≡ None → length tenant ≤ 150
tenant_few tenant is =
    let parts = neither (position (λ b. not (is_tenant_byte b)) (take 150 tenant)) (if nat_lt 150 (length tenant) then Some 150 else (if is_dots tenant then Some 0 else None)) is in
    ltb-false 150 (length tenant) (not_chosen (nat_lt 150 (length tenant)) 150 (if is_dots tenant then Some 0 else None) parts.1)

pub tenant_utf8 : (tenant : List ℕ) → wrong_place tenant ≡ None → IsUtf8 tenant
tenant_utf8 tenant is =
    let parts = neither (position (λ b. not (is_tenant_byte b)) (take 150 tenant)) (if nat_lt 150 (length tenant) then Some 150 else (if is_dots tenant then Some 0 else None)) is in
    let few = ltb-false 150 (length tenant) (not_chosen (nat_lt 150 (length tenant)) 150 (if is_dots tenant then Some 0 else None) parts.1) in
    let front = take_all 150 tenant few in
    let none : position (λ b. not (is_tenant_byte b)) tenant ≡ None = sym (ap (position (λ b. not (is_tenant_byte b))) front) ∙ parts.0 in
    let long = ltb-false (prefix_len (λ b. not (not (is_tenant_byte b))) tenant) (length tenant)
    (not_chosen (nat_lt (prefix_len (λ b. not (not (is_tenant_byte b))) tenant) (length tenant)) (prefix_len (λ b. not (not (is_tenant_byte b))) tenant) None none) in
    IsUtf8-from_ascii tenant (ascii_from_prefix tenant long)
