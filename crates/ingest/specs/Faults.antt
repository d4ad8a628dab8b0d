-- A fault of a request to ingest, as a reply shows it.
use Rattle.std.specs.Prelude.{ℕ, List, [], ◌∷◌, codes}
use Rattle.folded_reader.specs.Faults as folded
use Rattle.pprof_codec.specs.Faults as pprof
use Rattle.profile_model.specs.LabelFaults as label
use Rattle.ingest.specs.declared.fault.IngestFault.{IngestFault}
use Rattle.ingest.specs.declared.fault.IngestFault.TheVariants.{Name, Label, From, Format, Folded, Pprof, Weight}

-- the fault's code
abbrev pub code_of : IngestFault → List ℕ
code_of (Name at) = codes "I1"
code_of (Label fault) = label.code_of fault
code_of From = codes "I2"
code_of Format = codes "I3"
code_of (Folded fault) = folded.code_of fault
code_of (Pprof fault) = pprof.code_of fault
code_of Weight = codes "P14"

-- the numbers of what has the fault
abbrev pub place_of : IngestFault → List ℕ
place_of (Name at) = at ∷ []
place_of (Label fault) = label.place_of fault
place_of From = []
place_of Format = []
place_of (Folded fault) = folded.place_of fault
place_of (Pprof fault) = pprof.place_of fault
place_of Weight = 0 ∷ 0 ∷ []
