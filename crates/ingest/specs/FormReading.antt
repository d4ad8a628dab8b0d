-- What reading the labels of a request to ingest answers.
use Rattle.std.specs.Prelude.{List, Result, Ok, Err}
use Rattle.profile_model.specs.LabelSets.{Label}
use Rattle.profile_model.specs.ReadLabels.{IsReadLabels}
use Rattle.ingest.specs.Forms.{Parameters, IsLabelled, IsNameFault, IsSeries}
use Rattle.ingest.specs.declared.fault.IngestFault.{IngestFault}
use Rattle.ingest.specs.declared.fault.IngestFault.TheVariants.{Name, Label as Wrong}

-- why the name says no pairs
abbrev pub IsSeriesFault : Parameters → IngestFault → Type 0
IsSeriesFault parameters (Name at) = IsNameFault parameters at
IsSeriesFault parameters fault = ⊥

-- the labels, or why the name gives none
abbrev pub IsLabelsRead : Parameters → Result (List Label) IngestFault → Type 0
IsLabelsRead parameters (Ok labels) = IsLabelled parameters labels
IsLabelsRead parameters (Err (Wrong fault)) = (pairs : List Label) × IsSeries parameters pairs × IsReadLabels pairs (Err fault)
IsLabelsRead parameters (Err (Name at)) = IsNameFault parameters at
IsLabelsRead parameters (Err fault) = ⊥
