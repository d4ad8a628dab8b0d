-- What each tenant's values may come to.
use Rattle.std.specs.Prelude.{ℕ, List, nat_eq, unwrap_or}
use Rattle.std.specs.Map.{lookup}
use Rattle.std.specs.Cmp.Lexicographic.{pointwise}

-- limits, as contracts see them: some tenants' own numbers, and the one for all others
pub record LimitsView : Type 0 where
  pub fallback : ℕ
  pub tenants : List (List ℕ × ℕ)

-- a tenant's number
abbrev pub limit_of : LimitsView → List ℕ → ℕ
limit_of limits tenant = unwrap_or (lookup (pointwise nat_eq tenant) limits.tenants) limits.fallback
