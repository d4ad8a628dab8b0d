-- The stretch of time in which profiles stand.
use Rattle.std.specs.Prelude.{◌≡◌, ◌≤◌, ℕ, List, [], Option, Some, None, Contains}
use Rattle.std.specs.List.{All}
use Rattle.profile_model.specs.declared.profile.Profile.{Profile}
use Rattle.query_merge.specs.Rows.{times_of}

-- the first is one of the times and no later than any, the second is one of them and no earlier than any
pub record AreEnds (times : List ℕ) (ends : ℕ × ℕ) : Type 0 where
  pub oldest : Contains times ends.0
  pub newest : Contains times ends.1
  pub none_before : All (λ time. ends.0 ≤ time) times
  pub none_after : All (λ time. time ≤ ends.1) times

-- the oldest and the newest time of the profiles; none exactly where there are no profiles
abbrev pub IsSpanOf : List Profile → Option (ℕ × ℕ) → Type 0
IsSpanOf profiles None = profiles ≡ []
IsSpanOf profiles (Some ends) = AreEnds (times_of profiles) ends
