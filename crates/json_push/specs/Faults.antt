-- A fault of a JSON push, as a reply shows it.
use Rattle.std.specs.Prelude.{ℕ, List, [], ◌∷◌, codes}
use Rattle.pprof_codec.specs.Faults as pprof
use Rattle.profile_model.specs.LabelFaults as label
use Rattle.json_push.specs.declared.fault.PushFault.{PushFault}
use Rattle.json_push.specs.declared.fault.PushFault.TheVariants.{NotObject, Shape, Label, NotBase64, Pprof, TooMany, Weight}

abbrev pub code_of : PushFault → List ℕ
code_of NotObject = codes "J1"
code_of (Shape series sample) = codes "J2"
code_of (Label series fault) = label.code_of fault
code_of (NotBase64 series sample) = codes "J4"
code_of (Pprof series sample fault) = codes "J5"
code_of (TooMany series sample) = codes "J6"
code_of (Weight series sample) = codes "J7"

-- of a label the number of its series, and then its own; of a pprof the number p of its fault Pp last
abbrev pub place_of : PushFault → List ℕ
place_of NotObject = []
place_of (Shape series sample) = series ∷ sample ∷ []
place_of (Label series fault) = series ∷ label.place_of fault
place_of (NotBase64 series sample) = series ∷ sample ∷ []
place_of (Pprof series sample fault) = series ∷ sample ∷ pprof.number_of fault ∷ []
place_of (TooMany series sample) = series ∷ sample ∷ []
place_of (Weight series sample) = series ∷ sample ∷ []
