use Rattle.std.proofs.Common.{◌≡◌, ℕ, List, arith, take, length, refl, true, false, nat_lt, min}
use Rattle.std.specs.Prelude.{Option, Some, None, not, position, if◌then◌else◌}
use Rattle.std.specs.Option.{option_or}
use Rattle.std.proofs.lemmas.List.{take_min}
use Rattle.std.proofs.lemmas.Bool.Decides.{nat_tests}
use Rattle.profile_model.specs.Limits.{most_tenant_bytes}
use Rattle.profile_model.specs.TenantPlaces.{is_dots, is_tenant_byte, wrong_place}
use Rattle.profile_model.proofs.tenant.wrong_tenant_byte.Goals as goal

-- the first wrong byte, where it was looked for in the bytes that there are, and what stands where there is none
first_is : (bytes : List ℕ) (cut : ℕ) (at last : Option ℕ) → cut ≡ min most_tenant_bytes (length bytes) → at ≡ position (λ b. not (is_tenant_byte b)) (take cut bytes)
    → last ≡ (if nat_lt most_tenant_bytes (length bytes) then Some most_tenant_bytes else (if is_dots bytes then Some 0 else None)) → option_or at last ≡ wrong_place bytes
first_is bytes cut at last cut_is is last_is = rw (last_is, is, cut_is, take_min) refl

pub returns-in-Some : goal.returns-in-Some
returns-in-Some c = first_is c.args.bytes.now c.min.result (Some c.in-Some.at) _ c.min.ensures c.in-Some.ensures refl

pub returns-then-bytes-gt-MAX_TENANT_BYTES : goal.returns-then-bytes-gt-MAX_TENANT_BYTES
returns-then-bytes-gt-MAX_TENANT_BYTES c =
    let long : nat_lt most_tenant_bytes (length c.args.bytes.now) ≡ true = grind (arith, nat_tests) in
    first_is c.args.bytes.now c.min.result None (Some most_tenant_bytes) c.min.ensures c.in_default.ensures (rw long refl)

pub returns-else-is_only_dots : goal.returns-else-is_only_dots
returns-else-is_only_dots c =
    let short : nat_lt most_tenant_bytes (length c.args.bytes.now) ≡ false = grind (arith, nat_tests) in
    first_is c.args.bytes.now c.min.result None None c.min.ensures c.in_default.ensures (rw (short, ← c.if-is_only_dots.ensures) refl)
