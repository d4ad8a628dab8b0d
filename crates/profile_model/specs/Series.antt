-- What the labels of a series say of its profiles' type.
use Rattle.std.specs.Prelude.{ℕ, List, codes}
use Rattle.std.specs.Option.{unwrap_or}
use Rattle.profile_model.specs.CleanedTexts.{cleaned}
use Rattle.profile_model.specs.LabelSets.{Label, label_of, without_label}

-- the label that names the type
abbrev pub name_label : List ℕ
name_label = codes "__name__"

-- the label that stands for the type
abbrev pub type_label : List ℕ
type_label = codes "__profile_type__"

-- the two names that stand for a profile's type are no labels of a profile
abbrev pub own_labels : List Label → List Label
own_labels labels = without_label (without_label labels name_label) type_label

-- the name of the type
abbrev pub kind_name : List Label → List ℕ
kind_name labels = cleaned (unwrap_or (label_of labels name_label) (codes "process_cpu"))
