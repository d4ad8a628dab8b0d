-- What the parameters of a request to ingest say (Pyroscope's server HTTP API, "Ingestion"). The defaults, the bounds
-- and the order of the faults are this project's own.
use Rattle.std.specs.Prelude.{◌≡◌, ℕ, Bool, List, ◌∷◌, Option, Some, None, codes, nat_eq, unwrap_or, Ok, Err, MatchOption, if◌then◌else◌}
use Rattle.std.specs.Cmp.Lexicographic.{pointwise}
use Rattle.profile_model.specs.Breaks.{BreaksAt}
use Rattle.profile_model.specs.CleanedTexts.{cleaned}
use Rattle.profile_model.specs.LabelSets.{Label}
use Rattle.profile_model.specs.ReadLabels.{IsReadLabels}
use Rattle.profile_model.specs.Series.{kind_name, own_labels}
use Rattle.query_parameters.specs.Parameters.{value_of}
use Rattle.query_parameters.specs.Times.{time_of}
use Rattle.query_parameters.specs.SeriesNames.{IsName, IsSeriesName}
use Rattle.ingest.specs.declared.form.Form.{Form}
use Rattle.ingest.specs.declared.form.Format.{Format}
use Rattle.ingest.specs.declared.form.Format.TheVariants.{Folded, Lines, Pprof}
use Rattle.ingest.specs.declared.fault.IngestFault.{IngestFault}
use Rattle.ingest.specs.declared.fault.IngestFault.TheVariants as fault

-- parameters: names and values
abbrev pub Parameters : Type 0
Parameters = List (List ℕ × List ℕ)

-- ---- what each says

-- the pairs that the labels are made of: the service's name, and then those behind it
pub record IsSeries (parameters : Parameters) (pairs : List Label) : Type 0 where
  pub text : List ℕ
  pub service : List ℕ
  pub rest : List Label
  pub there : value_of parameters (codes "name") ≡ Some text
  pub named : IsSeriesName text service rest
  pub first : pairs ≡ (codes "service_name", service) ∷ rest

-- the labels that the pairs make
pub record IsLabelled (parameters : Parameters) (labels : List Label) : Type 0 where
  pub pairs : List Label
  pub series : IsSeries parameters pairs
  pub made : IsReadLabels pairs (Ok labels)

-- the time, which is the request's moment where it isn't said
abbrev pub IsFrom : Parameters → ℕ → ℕ → Type 0
IsFrom parameters moment ms = MatchOption (value_of parameters (codes "from")) (ms ≡ moment) (λ text. time_of text moment ≡ Some ms)

abbrev pub units_of : Parameters → List ℕ
units_of parameters = cleaned (unwrap_or (value_of parameters (codes "units")) (codes "count"))

abbrev pub is_text : List ℕ → List ℕ → Bool
is_text bytes text = pointwise nat_eq bytes text

-- the format, folded stacks where it isn't said
abbrev pub format_named : List ℕ → Option Format
format_named text =
    if is_text text (codes "folded") then Some Folded
    else (if is_text text (codes "lines") then Some Lines else (if is_text text (codes "pprof") then Some Pprof else None))

abbrev pub format_of : Option (List ℕ) → Option Format
format_of None = Some Folded
format_of (Some text) = format_named text

-- ---- all of it

pub record IsForm (parameters : Parameters) (moment : ℕ) (form : Form) : Type 0 where
  pub labels : List Label
  pub labelled : IsLabelled parameters labels
  pub own : form.labels ≡ own_labels labels
  pub name : form.name ≡ kind_name labels
  pub time : IsFrom parameters moment form.time_ms
  pub format : format_of (value_of parameters (codes "format")) ≡ Some form.format
  pub units : form.units ≡ units_of parameters

-- `name` is absent, or it breaks off the form of a series' name
abbrev pub IsNameFault : Parameters → ℕ → Type 0
IsNameFault parameters at = MatchOption (value_of parameters (codes "name")) (at ≡ 0) (λ text. (¬ (IsName text)) × BreaksAt IsName text at)

-- `from` is there and no time
abbrev pub IsNoTime : Parameters → ℕ → Type 0
IsNoTime parameters moment = MatchOption (value_of parameters (codes "from")) ⊥ (λ text. time_of text moment ≡ None)

-- the labels are read without fault
abbrev pub HasLabels : Parameters → Type 0
HasLabels parameters = (labels : List Label) × IsLabelled parameters labels

-- and the time
abbrev pub HasTime : Parameters → ℕ → Type 0
HasTime parameters moment = HasLabels parameters × ((ms : ℕ) × IsFrom parameters moment ms)

-- the first fault: each where those before it don't hold
abbrev pub IsFormFault : Parameters → ℕ → IngestFault → Type 0
IsFormFault parameters moment (fault.Name at) = IsNameFault parameters at
IsFormFault parameters moment (fault.Label wrong) = (pairs : List Label) × IsSeries parameters pairs × IsReadLabels pairs (Err wrong)
IsFormFault parameters moment fault.From = HasLabels parameters × IsNoTime parameters moment
IsFormFault parameters moment fault.Format = HasTime parameters moment × (format_of (value_of parameters (codes "format")) ≡ None)
IsFormFault parameters moment wrong = ⊥
