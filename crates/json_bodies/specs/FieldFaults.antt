-- Which field of an object is of a wrong kind.
use Rattle.std.specs.Prelude.{◌≡◌, ℕ, Bool, not, List, Option, Some, None}
use Rattle.std.specs.List.{position}
use Rattle.json_bodies.specs.declared.fields.FieldFault.{FieldFault}
use Rattle.json_bodies.specs.declared.fields.FieldFault.TheVariants.{WrongKind}

-- the field of this number says nothing
abbrev pub IsWrongKind : {A : Type 0} → ℕ → Option A → FieldFault → Type 0
IsWrongKind number saying (WrongKind at) = (at ≡ number) × (saying ≡ None)

-- the number of the first field of a wrong kind, where this is whether each is of its own
abbrev pub IsFirstWrong : List Bool → FieldFault → Type 0
IsFirstWrong right (WrongKind at) = position not right ≡ Some at
