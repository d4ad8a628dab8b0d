-- What a series was read to.
use Rattle.std.specs.Prelude.{ℕ, List, map}
use Rattle.json_bodies.specs.declared.push.PushedSeries.{PushedSeries}

-- its labels, and the texts of its samples
abbrev pub series_of : PushedSeries → List (List ℕ × List ℕ) × List (List ℕ)
series_of series = (series.labels.items, map (λ raw. raw.now) series.raw_profiles.items)
