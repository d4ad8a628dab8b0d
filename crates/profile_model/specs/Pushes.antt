-- What a push adds up to.
use Rattle.std.specs.Prelude.{ℕ, List, sum_by}
use Rattle.profile_model.specs.Sums.{total_of}
use Rattle.profile_model.specs.declared.profile.Profile.{Profile}

-- all values of all profiles
abbrev pub profiles_total : List Profile → ℕ
profiles_total profiles = sum_by (λ profile. total_of profile.values) profiles
