-- What reading a tenant answers.
use Rattle.std.specs.Prelude.{◌≡◌, ℕ, List, Some, None, Result, Ok, Err}
use Rattle.profile_model.specs.TenantPlaces.{wrong_place}
use Rattle.profile_model.specs.declared.tenant.TenantFault.{TenantFault}
use Rattle.profile_model.specs.declared.tenant.TenantFault.TheVariants.{BadTenant}

-- the bytes themselves where they are a tenant, else the place that is wrong
abbrev pub IsReadTenant : List ℕ → Result (List ℕ) TenantFault → Type 0
IsReadTenant bytes (Ok tenant) = (wrong_place bytes ≡ None) × (tenant ≡ bytes)
IsReadTenant bytes (Err (BadTenant at)) = wrong_place bytes ≡ Some at
