-- What a reader gives at one place of a message.
use Rattle.std.specs.Prelude.{◌≡◌, ℕ, List, ◌++◌, length}
use Rattle.wire_proto.specs.declared.field.Field.{Field}
use Rattle.wire_proto.specs.declared.field.Next.{Next}
use Rattle.wire_proto.specs.declared.field.Next.TheVariants as next
use Rattle.wire_proto.specs.Field.{Content, Varint, Eight, Bytes, Four, content_of}
use Rattle.wire_proto.specs.Message.{WireField, Spells, Message, empty, faulty, with_first, Cursor}
use Rattle.wire_proto.specs.Reading.{fields_of}

-- the field that a reader gave, which ends where the reader then stands
abbrev pub wire_field : Field → Cursor → WireField
wire_field f now = record { number = f.number; at = f.at; end = now.at; value = content_of f.value }

-- what a message reads as, from what a reader gave of it and where the reader then stands
abbrev pub message_of : Next → Cursor → Message
message_of (next.Field f) now = with_first (wire_field f now) (fields_of now.left now.at)
message_of next.End now = empty
message_of (next.Fault fault) now = faulty fault

-- the bytes up to here spell this field
pub record TakesField (old now : Cursor) (f : WireField) : Type 0 where
  pub spelling : List ℕ
  pub parts : old.left ≡ spelling ++ now.left
  pub spells : Spells spelling old.at f

-- a fact of the field, where one was given
abbrev pub IfField : Next → (Field → Type 0) → Type 0
IfField (next.Field f) P = P f
IfField next.End P = Unit {0}
IfField (next.Fault fault) P = Unit {0}

-- a field was given, and it has this fact
abbrev pub IsFieldAnd : Next → (Field → Type 0) → Type 0
IsFieldAnd (next.Field f) P = P f
IsFieldAnd next.End P = ⊥
IsFieldAnd (next.Fault fault) P = ⊥

-- a fact, unless a field was given
abbrev pub UnlessField : Next → Type 0 → Type 0
UnlessField (next.Field f) P = Unit {0}
UnlessField next.End P = P
UnlessField (next.Fault fault) P = P

-- how many bytes lie behind a length
abbrev pub inner_length : Content → ℕ
inner_length (Varint n) = 0
inner_length (Eight bytes) = 0
inner_length (Bytes bytes) = length bytes
inner_length (Four bytes) = 0
