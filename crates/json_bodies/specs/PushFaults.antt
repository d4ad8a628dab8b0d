-- Where the shape of a push is another.
use Rattle.std.specs.Prelude.{◌≡◌, List, Some, MatchOption, IsSomeAnd, slice_get}
use Rattle.serde_json.specs.Data.{Data}
use Rattle.json_bodies.specs.Pushes.{first_silent, members_in, series_in, silent_sample}
use Rattle.json_bodies.specs.declared.push.ShapeFault.{ShapeFault}
use Rattle.json_bodies.specs.declared.push.ShapeFault.TheVariants.{Wrong}

-- the first of the series that says nothing, and where in it
abbrev pub IsFaultOfMembers : List Data → ShapeFault → Type 0
IsFaultOfMembers members (Wrong series sample) =
    (first_silent series_in members ≡ Some series)
    × IsSomeAnd (slice_get members series) (λ one. silent_sample one ≡ Some sample)

-- the first place where a push says nothing; both numbers are 0 where `series` is no list
abbrev pub IsShapeFault : Data → ShapeFault → Type 0
IsShapeFault push (Wrong series sample) =
    MatchOption (members_in push) ((series ≡ 0) × (sample ≡ 0)) (λ members. IsFaultOfMembers members (Wrong series sample))
