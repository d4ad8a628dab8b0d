-- The answers in JSON (RFC 8259), as values; their bytes are the compact text of these.
use Rattle.std.specs.Prelude.{ℕ, List, map, codes}
use Rattle.serde_json.specs.Data.{Data, string, array, object, member, no_members}
use Rattle.serde_json.specs.View.{items_of}
use Rattle.profile_model.specs.LabelSets.{Label}

-- `{"names":["a","b"]}`
abbrev pub names_data : List (List ℕ) → Data
names_data names = object (member (codes "names") (array (items_of (map string names))) no_members)

-- `{"name":"env","value":"prod"}`
abbrev pub label_data : Label → Data
label_data label = object (member (codes "name") (string label.0) (member (codes "value") (string label.1) no_members))

-- `{"labels":[..]}`
abbrev pub set_data : List Label → Data
set_data labels = object (member (codes "labels") (array (items_of (map label_data labels))) no_members)

-- `{"labelsSet":[..]}`
abbrev pub series_data : List (List Label) → Data
series_data sets = object (member (codes "labelsSet") (array (items_of (map set_data sets))) no_members)
