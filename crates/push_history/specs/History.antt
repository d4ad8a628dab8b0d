-- The list of accepted pushes, and what it holds of one tenant.
use Rattle.std.specs.Prelude.{◌&&◌, ℕ, ◌<◌, List, length, take, filter, sum_by, nat_eq, nat_le}
use Rattle.std.specs.List.{flat_map}
use Rattle.std.specs.Cmp.Lexicographic.{pointwise}
use Rattle.profile_model.specs.Limits.{total_bound}
use Rattle.profile_model.specs.Sums.{Sample, sums_of}
use Rattle.profile_model.specs.Pushes.{profiles_total}
use Rattle.profile_model.specs.declared.profile.Profile.{Profile}
use Rattle.profile_model.specs.declared.push.Push.{Push}

-- the pushes of a tenant, in order
abbrev pub pushes_of : List Push → List ℕ → List Push
pushes_of history tenant = filter (λ push. pointwise nat_eq push.tenant tenant) history

-- how many they are
abbrev pub front_of : List Push → List ℕ → ℕ
front_of history tenant = length (pushes_of history tenant)

-- all values of all profiles of some pushes
abbrev pub pushes_total : List Push → ℕ
pushes_total pushes = sum_by (λ push. profiles_total push.profiles) pushes

-- the same of a tenant's pushes
abbrev pub tenant_total : List Push → List ℕ → ℕ
tenant_total history tenant = pushes_total (pushes_of history tenant)

-- each tenant's total is bounded
abbrev pub HasBoundedTotals : List Push → Type 0
HasBoundedTotals history = (tenant : List ℕ) → tenant_total history tenant < total_bound

-- the profiles of a tenant's first pushes whose time is in a closed window, in push order
abbrev pub rows_of : List Push → List ℕ → ℕ → ℕ → ℕ → List Profile
rows_of history tenant front from until =
    filter (λ profile. nat_le from profile.time_ms && nat_le profile.time_ms until)
    (flat_map (λ push. push.profiles) (take front (pushes_of history tenant)))

-- what profiles come to, stack by stack
abbrev pub sums_of_rows : List Profile → List Sample
sums_of_rows rows = sums_of (flat_map (λ profile. profile.values) rows)
