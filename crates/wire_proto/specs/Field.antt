-- Fields: a tag and a value, one after the other ("Message Structure" in the Protocol Buffers encoding document).
-- That groups, the wires 3 and 4, are no fields is this project's own rule.
use Rattle.std.specs.Prelude.{◌≡◌, ℕ, ◌+◌, ◌*◌, ◌/◌, ◌%◌, ◌<◌, ◌≤◌, ◌⊎◌, List, [], ◌∷◌, ◌++◌, length, Contains}
use Rattle.wire_proto.specs.declared.wire.Wire.{Wire}
use Rattle.wire_proto.specs.declared.wire.Wire.TheVariants as wires
use Rattle.wire_proto.specs.declared.field.Value.{Value}
use Rattle.wire_proto.specs.declared.field.Value.TheVariants as values
use Rattle.wire_proto.specs.declared.field.WireFault.{WireFault}
use Rattle.wire_proto.specs.declared.field.WireFault.TheVariants.{Truncated, BadVarint, BadType}
use Rattle.wire_proto.specs.Varint.{IsVarint, HasVarint, IsCutVarint, IsBadVarint}

-- ---- what a field holds

-- a value without where its bytes lie in memory
pub data Content : Type 0 where
  Varint : ℕ → Content
  Eight : List ℕ → Content
  Bytes : List ℕ → Content
  Four : List ℕ → Content

abbrev pub content_of : Value → Content
content_of (values.Varint n) = Varint n
content_of (values.Eight bytes) = Eight bytes
content_of (values.Bytes bytes) = Bytes bytes.now
content_of (values.Four bytes) = Four bytes

-- the wire that spells such a value
abbrev pub wire_of : Content → Wire
wire_of (Varint n) = wires.Varint
wire_of (Eight bytes) = wires.Eight
wire_of (Bytes bytes) = wires.Bytes
wire_of (Four bytes) = wires.Four

-- the number of each wire
abbrev pub wire_number : Wire → ℕ
wire_number wires.Varint = 0
wire_number wires.Eight = 1
wire_number wires.Bytes = 2
wire_number wires.Four = 5

-- ---- how it is spelled

-- the largest number of a field, 2 ^ 29 - 1
abbrev pub last_number : ℕ
last_number = 536870911

-- these bytes are a tag of this number and wire
pub record IsTag (bytes : List ℕ) (number : ℕ) (wire : Wire) : Type 0 where
  pub spelled : IsVarint bytes (number * 8 + wire_number wire)
  pub not_zero : 1 ≤ number
  pub at_most_last : number ≤ last_number

-- these bytes spell this value
abbrev pub IsValue : List ℕ → Content → Type 0
IsValue bytes (Varint n) = IsVarint bytes n
IsValue bytes (Eight value) = (bytes ≡ value) × (length value ≡ 8)
IsValue bytes (Bytes value) = (size : List ℕ) × IsVarint size (length value) × (bytes ≡ size ++ value)
IsValue bytes (Four value) = (bytes ≡ value) × (length value ≡ 4)

-- these bytes spell a field of this number and value
pub record IsField (bytes : List ℕ) (number : ℕ) (value : Content) : Type 0 where
  pub tag : List ℕ
  pub rest : List ℕ
  pub parts : bytes ≡ tag ++ rest
  pub is_tag : IsTag tag number (wire_of value)
  pub is_value : IsValue rest value

-- ---- the first fault of the field at the front, its parts judged from left to right

-- a tag of this wire is at the front, and these bytes come after it
pub record HasTag (bytes : List ℕ) (wire : Wire) (rest : List ℕ) : Type 0 where
  pub tag : List ℕ
  pub number : ℕ
  pub parts : bytes ≡ tag ++ rest
  pub is_tag : IsTag tag number wire

-- the bytes end before a value of this wire does
abbrev pub IsCutValue : Wire → List ℕ → Type 0
IsCutValue wires.Varint bytes = IsCutVarint bytes
IsCutValue wires.Eight bytes = length bytes < 8
IsCutValue wires.Bytes bytes = IsCutVarint bytes ⊎ ((size : ℕ) × (rest : List ℕ) × HasVarint bytes size rest × (length rest < size))
IsCutValue wires.Four bytes = length bytes < 4

-- a varint of a value of this wire has a tenth byte above 1
abbrev pub IsBadValue : Wire → List ℕ → Type 0
IsBadValue wires.Varint bytes = IsBadVarint bytes
IsBadValue wires.Eight bytes = ⊥
IsBadValue wires.Bytes bytes = IsBadVarint bytes
IsBadValue wires.Four bytes = ⊥

-- what a tag spells that is no tag: one of the other wires, or a number that no field has
abbrev pub IsBadTag : ℕ → Type 0
IsBadTag tag = Contains (3 ∷ 4 ∷ 6 ∷ 7 ∷ []) (tag % 8) ⊎ (tag / 8 ≡ 0) ⊎ (last_number < tag / 8)

-- the field that begins at this place has this fault first
abbrev pub IsFault : List ℕ → ℕ → WireFault → Type 0
IsFault bytes at (Truncated place) = (place ≡ at) × (0 < length bytes) × (IsCutVarint bytes ⊎ ((wire : Wire) × (rest : List ℕ) × HasTag bytes wire rest × IsCutValue wire rest))
IsFault bytes at (BadVarint place) = (place ≡ at) × (IsBadVarint bytes ⊎ ((wire : Wire) × (rest : List ℕ) × HasTag bytes wire rest × IsBadValue wire rest))
IsFault bytes at (BadType place) = (place ≡ at) × ((tag : ℕ) × (rest : List ℕ) × HasVarint bytes tag rest × IsBadTag tag)
