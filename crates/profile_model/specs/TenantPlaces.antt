-- Which bytes are a tenant's name, and the place that is wrong in those that aren't.
use Rattle.std.specs.Prelude.{◌==◌, ◌||◌, ◌&&◌, ℕ, Bool, true, false, not, List, [], ◌∷◌, length, take, position, nat_lt, codes, Option, Some, None, if◌then◌else◌}
use Rattle.std.specs.List.{list_any}
use Rattle.std.specs.Option.{option_or}
use Rattle.std.specs.Char.{is_ascii_alphanumeric}
use Rattle.profile_model.specs.Limits.{most_tenant_bytes}

-- letters, digits and !-_.*'()
abbrev pub is_tenant_byte : ℕ → Bool
is_tenant_byte b = is_ascii_alphanumeric b || list_any (λ c. c == b) (codes "!-_.*'()")

-- nothing, one dot or two
abbrev pub is_dots : List ℕ → Bool
is_dots [] = true
is_dots (b ∷ []) = b == 46
is_dots (b ∷ c ∷ []) = (b == 46) && (c == 46)
is_dots _ = false

-- the first byte among as many as a tenant may have that no tenant has; else the byte behind these where there are more;
-- else 0 where there is none, or only one dot or two; None where the bytes are a tenant
abbrev pub wrong_place : List ℕ → Option ℕ
wrong_place bytes =
    option_or (position (λ b. not (is_tenant_byte b)) (take most_tenant_bytes bytes))
    (if nat_lt most_tenant_bytes (length bytes) then Some most_tenant_bytes else (if is_dots bytes then Some 0 else None))
