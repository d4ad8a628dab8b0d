-- Reading from left to right, with the first fault that is met. It computes what the definitions of Field.antt and
-- Message.antt say, which the laws of this crate show.
use Rattle.std.specs.Prelude.{◌++◌, ◌≡◌, ℕ, zero, suc, ◌+◌, ◌-◌, ◌*◌, ◌/◌, ◌%◌, List, [], ◌∷◌, length, take, drop, Result, Ok, Err, nat_lt, nat_le, ◌==◌, ◌&&◌, if◌then◌else◌}
use Rattle.wire_proto.specs.declared.wire.Wire.{Wire}
use Rattle.wire_proto.specs.declared.wire.Wire.TheVariants as wires
use Rattle.wire_proto.specs.declared.field.WireFault.{WireFault}
use Rattle.wire_proto.specs.declared.field.WireFault.TheVariants.{Truncated, BadVarint, BadType}
use Rattle.wire_proto.specs.Field.{Content, Varint, Eight, Bytes, Four, last_number, IsField, IsFault}
use Rattle.wire_proto.specs.Message.{Message, empty, faulty, with_first}

infixl 10 ◌>>=◌
abbrev pub ◌>>=◌ : {A B : Type 0} → Result A WireFault → (A → Result B WireFault) → Result B WireFault
(Ok x) >>= f = f x
(Err e) >>= f = Err e

-- what a function returned, seen by view, is what reading gives
abbrev pub Gives : {X Y : Type 0} → (X → Y) → Result X WireFault → Result Y WireFault → Type 0
Gives view (Ok x) read = read ≡ Ok (view x)
Gives view (Err e) read = read ≡ Err e

-- the varint at the front and the bytes after it, where up to `more` bytes may come after its first
unfoldable pub varint_within : ℕ → ℕ → List ℕ → Result (ℕ × List ℕ) WireFault
varint_within at more [] = Err (Truncated at)
varint_within at zero (b ∷ bs) = if nat_le b 1 then Ok (b, bs) else Err (BadVarint at)
varint_within at (suc more) (b ∷ bs) = if nat_lt b 128 then Ok (b, bs) else (varint_within at more bs >>= λ rest. Ok ((b - 128) + 128 * rest.0, rest.1))

unfoldable pub varint_at : ℕ → List ℕ → Result (ℕ × List ℕ) WireFault
varint_at at bytes = varint_within at 9 bytes

-- so many bytes, and those after them
unfoldable pub chunk_at : ℕ → ℕ → List ℕ → Result (List ℕ × List ℕ) WireFault
chunk_at at size bytes = if nat_lt (length bytes) size then Err (Truncated at) else Ok (take size bytes, drop size bytes)

unfoldable pub number_at : ℕ → ℕ → Result ℕ WireFault
number_at at tag = if nat_le 1 (tag / 8) && nat_le (tag / 8) last_number then Ok (tag / 8) else Err (BadType at)

unfoldable pub wire_at : ℕ → ℕ → Result Wire WireFault
wire_at at tag =
    if tag % 8 == 0 then Ok wires.Varint else (if tag % 8 == 1 then Ok wires.Eight else (if tag % 8 == 2 then Ok wires.Bytes else (if tag % 8 == 5 then Ok wires.Four else Err (BadType at))))

-- the number and the wire of the tag at the front, and the bytes after it
unfoldable pub tag_at : ℕ → List ℕ → Result (ℕ × Wire × List ℕ) WireFault
tag_at at bytes = do
  tag ← varint_at at bytes
  number ← number_at at tag.0
  wire ← wire_at at tag.0
  Ok (number, wire, tag.1)

-- the value of this wire at the front, and the bytes after it
unfoldable pub value_at : ℕ → Wire → List ℕ → Result (Content × List ℕ) WireFault
value_at at wires.Varint bytes = do
  n ← varint_at at bytes
  Ok (Varint n.0, n.1)
value_at at wires.Eight bytes = do
  value ← chunk_at at 8 bytes
  Ok (Eight value.0, value.1)
value_at at wires.Bytes bytes = do
  size ← varint_at at bytes
  value ← chunk_at at size.0 size.1
  Ok (Bytes value.0, value.1)
value_at at wires.Four bytes = do
  value ← chunk_at at 4 bytes
  Ok (Four value.0, value.1)

-- the number and the value of the field at the front, and the bytes after it
unfoldable pub field_at : ℕ → List ℕ → Result (ℕ × Content × List ℕ) WireFault
field_at at bytes = do
  tag ← tag_at at bytes
  value ← value_at at tag.1 tag.2
  Ok (tag.0, value.0, value.1)

-- what was read is what the bytes spell, or their first fault
abbrev pub FieldReads : ℕ → List ℕ → Result (ℕ × Content × List ℕ) WireFault → Type 0
FieldReads at bytes (Ok x) = (spelling : List ℕ) × (bytes ≡ spelling ++ x.2) × IsField spelling x.0 x.1
FieldReads at bytes (Err fault) = IsFault bytes at fault

-- ---- a message

-- what the bytes read as, where `more` reads those after the first field
abbrev pub message_from : ℕ → List ℕ → (List ℕ → ℕ → Message) → Result (ℕ × Content × List ℕ) WireFault → Message
message_from at bytes more (Ok x) =
    let end : ℕ = at + (length bytes - length x.2) in
    with_first (record { number = x.0; at = at; end = end; value = x.1 }) (more x.2 end)
message_from at bytes more (Err fault) = faulty fault

-- the message of at most so many fields
unfoldable pub message_within : ℕ → List ℕ → ℕ → Message
message_within most [] at = empty
message_within zero (b ∷ bs) at = empty
message_within (suc most) (b ∷ bs) at = message_from at (b ∷ bs) (message_within most) (field_at at (b ∷ bs))

-- What the bytes of a message read as, where the first of them stands at this place. A field has at least one byte.
unfoldable pub fields_of : List ℕ → ℕ → Message
fields_of bytes at = message_within (length bytes) bytes at
