-- What adding profiles to label sets one after another comes to.
use Rattle.std.specs.Prelude.{◌&&◌, ℕ, List, filter, fold, nat_le}
use Rattle.profile_model.specs.declared.profile.Profile.{Profile}
use Rattle.label_queries.specs.Gathered.{Gathered, with_profile}

-- with each profile in the window added in turn
abbrev pub with_rows : Gathered → List Profile → ℕ → ℕ → Gathered
with_rows gathered profiles from until =
    fold with_profile gathered (filter (λ profile. nat_le from profile.time_ms && nat_le profile.time_ms until) profiles)
