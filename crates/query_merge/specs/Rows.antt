-- What is looked at of rows.
use Rattle.std.specs.Prelude.{ℕ, List, flat_map, map}
use Rattle.profile_model.specs.declared.profile.Profile.{Profile}
use Rattle.segment_file.specs.Parts.{PartView}
use Rattle.segment_file.specs.declared.part.Row.{Row}

-- their profiles, in their order
abbrev pub profiles_of : List Row → List Profile
profiles_of rows = map (λ row. row.profile) rows

-- those of the rows of parts, one part after another
abbrev pub profiles_of_parts : List PartView → List Profile
profiles_of_parts parts = flat_map (λ part. profiles_of part.rows) parts

-- the times of profiles
abbrev pub times_of : List Profile → List ℕ
times_of profiles = map (λ profile. profile.time_ms) profiles
