-- A message: the fields whose spellings, one after another, are its bytes; else its fields up to the first fault.
use Rattle.std.specs.Prelude.{◌≡◌, ℕ, ◌+◌, List, [], ◌∷◌, ◌++◌, length, Option, Some, None}
use Rattle.wire_proto.specs.declared.field.WireFault.{WireFault}
use Rattle.wire_proto.specs.Field.{Content, IsField, IsFault}

-- A field of a message without where it lies in memory. It stands from the place `at` up to the place `end`.
pub record WireField : Type 0 where
  pub number : ℕ
  pub at : ℕ
  pub end : ℕ
  pub value : Content

-- these bytes, the first of them at this place, spell this field
pub record Spells (bytes : List ℕ) (at : ℕ) (f : WireField) : Type 0 where
  pub spelled : IsField bytes f.number f.value
  pub from : f.at ≡ at
  pub to : f.end ≡ at + length bytes

-- These bytes, the first of them at this place, are the spellings of these fields, and then nothing more or, where a
-- fault is given, bytes that have it.
abbrev pub Reads : List ℕ → ℕ → List WireField → Option WireFault → Type 0
Reads bytes at [] None = bytes ≡ []
Reads bytes at [] (Some fault) = IsFault bytes at fault
Reads bytes at (f ∷ fs) fault = (spelling : List ℕ) × (rest : List ℕ) × (bytes ≡ spelling ++ rest) × Spells spelling at f × Reads rest f.end fs fault

-- what a message reads as
pub record Message : Type 0 where
  pub fields : List WireField
  pub fault : Option WireFault

abbrev pub empty : Message
empty = record { fields = []; fault = None }

abbrev pub faulty : WireFault → Message
faulty fault = record { fields = []; fault = Some fault }

abbrev pub with_first : WireField → Message → Message
with_first f m = record { fields = f ∷ m.fields; fault = m.fault }

-- where a reader stands in a message: the bytes that it still has to read, and the place of the first of them
pub record Cursor : Type 0 where
  pub left : List ℕ
  pub at : ℕ
