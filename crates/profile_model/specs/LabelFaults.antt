-- A fault of labels, as clients are told of it.
use Rattle.std.specs.Prelude.{ℕ, List, [], ◌∷◌, codes}
use Rattle.profile_model.specs.declared.labels.LabelFault.{LabelFault}
use Rattle.profile_model.specs.declared.labels.LabelFault.TheVariants.{BadName, BadValue, Repeated, TooMany}

abbrev pub code_of : LabelFault → List ℕ
code_of (BadName at) = codes "L1"
code_of (BadValue at) = codes "L2"
code_of (Repeated at) = codes "L3"
code_of TooMany = codes "L4"

-- the number of the pair
abbrev pub place_of : LabelFault → List ℕ
place_of (BadName at) = at ∷ []
place_of (BadValue at) = at ∷ []
place_of (Repeated at) = at ∷ []
place_of TooMany = []
