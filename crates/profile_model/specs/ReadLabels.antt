-- What making labels of pairs answers.
use Rattle.std.specs.Prelude.{ℕ, ◌<◌, ◌≤◌, List, length, take, slice_get, Option, Some, None, Result, Ok, Err, IsSomeAnd, IsTrue, IsFalse}
use Rattle.profile_model.specs.Limits.{most_labels, most_value_bytes}
use Rattle.profile_model.specs.LabelSets.{Label, AreLabelsOf, AreSound, has_label, is_label_name, with_value}
use Rattle.profile_model.specs.declared.labels.LabelFault.{LabelFault}
use Rattle.profile_model.specs.declared.labels.LabelFault.TheVariants.{BadName, BadValue, Repeated, TooMany}

-- pair `at` is the first that breaks a rule, and this one
pub record IsFirstFault (pairs : List Label) (at : ℕ) (Broken : Label → Type 0) : Type 0 where
  pub before : AreSound (take at pairs)
  pub here : IsSomeAnd (slice_get pairs at) Broken

-- The fault of pairs that labels can't be made of. Of one pair the name comes first, then the value, then
-- an earlier pair with the name, also where that one has no value.
abbrev pub IsLabelFault : List Label → LabelFault → Type 0
IsLabelFault pairs (BadName at) = IsFirstFault pairs at (λ pair. IsFalse (is_label_name pair.0))
IsLabelFault pairs (BadValue at) =
    IsFirstFault pairs at (λ pair. IsTrue (is_label_name pair.0) × (most_value_bytes < length pair.1))
IsLabelFault pairs (Repeated at) =
    IsFirstFault pairs at (λ pair. IsTrue (is_label_name pair.0) × (length pair.1 ≤ most_value_bytes) × IsTrue (has_label (take at pairs) pair.0))
IsLabelFault pairs TooMany = AreSound pairs × (most_labels < length (with_value pairs))

-- the labels of the pairs that have a value, or the fault
abbrev pub IsReadLabels : List Label → Result (List Label) LabelFault → Type 0
IsReadLabels pairs (Ok labels) = AreSound pairs × (length (with_value pairs) ≤ most_labels) × AreLabelsOf (with_value pairs) labels
IsReadLabels pairs (Err fault) = IsLabelFault pairs fault

-- no pair breaks a rule, or this is the first that does, and its rule
abbrev pub IsPairFault : List Label → Option LabelFault → Type 0
IsPairFault pairs None = AreSound pairs
IsPairFault pairs (Some TooMany) = ⊥
IsPairFault pairs (Some fault) = IsLabelFault pairs fault
