-- What is kept of a push while its series are read.
use Rattle.std.specs.Prelude.{◌≡◌, ℕ, List, Vec, map, Option, Some, None, option_map, option_and_then, MatchOption, Result, Ok, Err}
use Rattle.std.specs.declared.alloc.Global.{Global}
use Rattle.serde_json.specs.Data.{Data, Members, object}
use Rattle.json_bodies.specs.Fields.{each_said}
use Rattle.json_bodies.specs.Pushes.{labels_in, samples_in, series_in, silent_sample}
use Rattle.json_bodies.specs.PushFaults.{IsFaultOfMembers}
use Rattle.json_bodies.specs.Kept.{AreSamples}
use Rattle.json_bodies.specs.KeptTexts.{IsCutAt}
use Rattle.json_bodies.specs.declared.push.ShapeFault.{ShapeFault}
use Rattle.json_bodies.specs.declared.push.ShapeFault.TheVariants.{Wrong}
use Rattle.json_bodies.specs.declared.series.Parts.{Parts}
use Rattle.json_bodies.specs.declared.series.Series.{Series}

-- its labels, and the texts of its samples
abbrev pub kept_of : Series → List (List ℕ × List ℕ) × List (List ℕ)
kept_of series = (series.labels.items, series.raw_profiles)

pub record AreParts (found : Members) (parts : Parts) : Type 0 where
  pub labels : labels_in (object found) ≡ option_map (λ l. l.items) parts.labels
  pub samples : AreSamples (samples_in (object found)) parts.samples

-- what a series says, or where in it it says nothing
abbrev pub IsKept : Data → Result Series ℕ → Type 0
IsKept d (Ok series) = series_in d ≡ Some (kept_of series)
IsKept d (Err sample) = (series_in d ≡ None) × (silent_sample d ≡ Some sample)

-- what each says, or the first that says nothing, and where in it
abbrev pub AreSeries : List Data → Result (Vec Series Global) ShapeFault → Type 0
AreSeries ds (Ok all) = each_said series_in ds ≡ Some (map kept_of all.items)
AreSeries ds (Err (Wrong series sample)) = IsCutAt series_in (λ here. silent_sample here ≡ Some sample) ds series

-- what the members of a push say, or the first place where they say nothing
abbrev pub IsKeptPush : Option (List Data) → Result (Vec Series Global) ShapeFault → Type 0
IsKeptPush members (Ok all) = option_and_then (each_said series_in) members ≡ Some (map kept_of all.items)
IsKeptPush members (Err (Wrong series sample)) =
    MatchOption members ((series ≡ 0) × (sample ≡ 0)) (λ ds. IsFaultOfMembers ds (Wrong series sample))
