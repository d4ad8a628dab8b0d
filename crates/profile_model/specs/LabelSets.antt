-- The labels of a profile.
use Rattle.std.specs.Prelude.{◌≡◌, ◌==◌, ◌||◌, ◌&&◌, ℕ, ◌<◌, ◌≤◌, Bool, false, not, List, [], ◌∷◌, length, filter, nat_eq, nat_lt, nat_le, Option, IsTrue}
use Rattle.std.specs.Char.{is_ascii_alphanumeric, is_ascii_digit}
use Rattle.std.specs.List.{All, IsDistinct, list_all, list_any}
use Rattle.std.specs.List.Sorted.{IsStrictlySortedBy}
use Rattle.std.specs.BTreeMap.{insert_entry}
use Rattle.std.specs.Map.{keys_of, lookup}
use Rattle.std.specs.Cmp.Lexicographic.{pointwise}
use Rattle.profile_model.specs.Limits.{most_name_bytes, most_profile_labels, most_value_bytes}
use Rattle.profile_model.specs.Stacks.{name_cmp}

-- a label's name and value
abbrev pub Label : Type 0
Label = List ℕ × List ℕ

-- names ascend, so no name comes twice
abbrev pub AreLabels : List Label → Type 0
AreLabels labels = IsStrictlySortedBy name_cmp (keys_of labels)

-- the value of a name, if it is there
abbrev pub label_of : List Label → List ℕ → Option (List ℕ)
label_of labels name = lookup (pointwise nat_eq name) labels

-- whether some label has the name
abbrev pub has_label : List Label → List ℕ → Bool
has_label labels name = list_any (λ label. pointwise nat_eq name label.0) labels

-- the labels with another name
abbrev pub without_label : List Label → List ℕ → List Label
without_label labels name = filter (λ label. not (pointwise nat_eq name label.0)) labels

-- the labels with this one in its place, or in the place of the one with its name
abbrev pub with_label : List Label → List ℕ → List ℕ → List Label
with_label labels name value = insert_entry name_cmp labels name value

-- letters, digits, `_` and `.`
abbrev pub is_label_byte : ℕ → Bool
is_label_byte b = is_ascii_alphanumeric b || (b == 95) || (b == 46)

abbrev pub begins_with_digit : List ℕ → Bool
begins_with_digit [] = false
begins_with_digit (b ∷ bytes) = is_ascii_digit b

abbrev pub is_name_length : ℕ → Bool
is_name_length n = nat_lt 0 n && nat_le n most_name_bytes

-- at least one such byte and not too many, the first no digit
abbrev pub is_label_name : List ℕ → Bool
is_label_name name =
    is_name_length (length name) && list_all is_label_byte name && not (begins_with_digit name)

-- a label's value isn't empty, nor too long
abbrev pub IsLabelValue : List ℕ → Type 0
IsLabelValue value = (0 < length value) × (length value ≤ most_value_bytes)

-- a label of a profile
pub record IsLabel (label : Label) : Type 0 where
  pub name : IsTrue (is_label_name label.0)
  pub value : IsLabelValue label.1

-- the labels of a profile
pub record AreProfileLabels (labels : List Label) : Type 0 where
  pub few : length labels ≤ most_profile_labels
  pub each : All IsLabel labels

-- Pairs that labels may be made of: each has a name of a label and a value that isn't too long, and no
-- name comes twice.
pub record AreSound (pairs : List Label) : Type 0 where
  pub names : All (λ pair. IsTrue (is_label_name pair.0)) pairs
  pub values : All (λ pair. length pair.1 ≤ most_value_bytes) pairs
  pub distinct : IsDistinct (pointwise nat_eq) (keys_of pairs)

-- the pairs whose value isn't empty
abbrev pub with_value : List Label → List Label
with_value pairs = filter (λ pair. nat_lt 0 (length pair.1)) pairs

-- the pairs in the order of their names: each name has the value that the pairs give it
pub record AreLabelsOf (pairs labels : List Label) : Type 0 where
  pub ascending : AreLabels labels
  pub exact : (name : List ℕ) → label_of labels name ≡ label_of pairs name
