-- What reading a series' name answers.
use Rattle.std.specs.Prelude.{ℕ, List, Result, Ok, Err}
use Rattle.faults.specs.declared.refused.Refused.{Refused}
use Rattle.faults.specs.declared.refused.Refused.TheVariants.{Fault, Memory}
use Rattle.profile_model.specs.Breaks.{BreaksAt}
use Rattle.query_parameters.specs.SeriesNames.{IsName, IsSeriesName, pairs_in}
use Rattle.query_parameters.specs.declared.series_name.SeriesName.{SeriesName}
use Rattle.query_parameters.specs.declared.series_name.NameFault.{NameFault}
use Rattle.query_parameters.specs.declared.series_name.NameFault.TheVariants.{Broken}

-- The service and the pairs; or, of a text that is no name, the place where it breaks off from all names.
-- Want of memory comes only of a name.
abbrev pub IsReadName : List ℕ → Result SeriesName (Refused NameFault) → Type 0
IsReadName text (Ok name) = IsSeriesName text name.service.now (pairs_in name)
IsReadName text (Err (Fault (Broken at))) = (¬ (IsName text)) × BreaksAt IsName text at
IsReadName text (Err Memory) = IsName text
