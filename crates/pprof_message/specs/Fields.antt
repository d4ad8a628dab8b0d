-- What the fields of a message hold, where its type is known ("Message Structure", "Last One Wins" and "Repeated
-- Elements" in the Protocol Buffers encoding document). A field with another wire than its own holds nothing.
use Rattle.std.specs.Prelude.{◌==◌, ℕ, zero, suc, ◌-◌, List, [], ◌∷◌, length, map, Option, Some, None, Bool, true, false, Result, Ok, Err, if◌then◌else◌}
use Rattle.std.specs.List.{filter_map, flat_map}
use Rattle.wire_proto.specs.declared.field.WireFault.{WireFault}
use Rattle.wire_proto.specs.Field.{Content, Varint, Eight, Bytes, Four}
use Rattle.wire_proto.specs.Message.{WireField}
use Rattle.wire_proto.specs.Reading.{varint_at, fields_of}

-- ---- one field

-- the bytes behind a length, and the place of the first of them
pub record Part : Type 0 where
  pub bytes : List ℕ
  pub at : ℕ

abbrev pub number_in : Content → Option ℕ
number_in (Varint n) = Some n
number_in (Eight bytes) = None
number_in (Bytes bytes) = None
number_in (Four bytes) = None

-- the bytes of a value that ends at this place
abbrev pub part_in : ℕ → Content → Option Part
part_in end (Varint n) = None
part_in end (Eight bytes) = None
part_in end (Bytes bytes) = Some (record { bytes = bytes; at = end - length bytes })
part_in end (Four bytes) = None

-- what the field holds, if it has this number
abbrev pub number_of : ℕ → WireField → Option ℕ
number_of number f = if f.number == number then number_in f.value else None

abbrev pub part_of : ℕ → WireField → Option Part
part_of number f = if f.number == number then part_in f.end f.value else None

-- ---- numbers in a packed field

-- The numbers that stand one after another, up to the first that can't be read, and whether all could be.
pub record Packed : Type 0 where
  pub numbers : List ℕ
  pub is_whole : Bool

-- what was read first, and what `more` reads of the bytes after it
abbrev pub packed_from : (List ℕ → Packed) → Result (ℕ × List ℕ) WireFault → Packed
packed_from more (Ok x) = let rest : Packed = more x.1 in record { numbers = x.0 ∷ rest.numbers; is_whole = rest.is_whole }
packed_from more (Err fault) = record { numbers = []; is_whole = false }

-- at most so many numbers
unfoldable pub packed_within : ℕ → List ℕ → Packed
packed_within most [] = record { numbers = []; is_whole = true }
packed_within zero (b ∷ bs) = record { numbers = []; is_whole = true }
packed_within (suc most) (b ∷ bs) = packed_from (packed_within most) (varint_at 0 (b ∷ bs))

-- a number has at least one byte
unfoldable pub packed : List ℕ → Packed
packed bytes = packed_within (length bytes) bytes

-- the numbers of a repeated field: one as a varint, or packed ones
abbrev pub numbers_in : Content → List ℕ
numbers_in (Varint n) = n ∷ []
numbers_in (Eight bytes) = []
numbers_in (Bytes bytes) = (packed bytes).numbers
numbers_in (Four bytes) = []

abbrev pub numbers_of : ℕ → WireField → List ℕ
numbers_of number f = if f.number == number then numbers_in f.value else []

-- ---- all fields of a message

abbrev pub fields_in : Part → List WireField
fields_in part = (fields_of part.bytes part.at).fields

-- the last of these, or what stands before them
abbrev pub last_of : ℕ → List ℕ → ℕ
last_of n [] = n
last_of n (x ∷ xs) = last_of x xs

-- a singular number: the last one stands, and an absent one is 0
abbrev pub singular : ℕ → List WireField → ℕ
singular number fields = last_of 0 (filter_map (number_of number) fields)

-- repeated numbers, packed or not, in order
abbrev pub repeated : ℕ → List WireField → List ℕ
repeated number fields = flat_map (numbers_of number) fields

-- the parts in the fields of this number, in order
abbrev pub parts : ℕ → List WireField → List Part
parts number fields = filter_map (part_of number) fields

-- a repeated message, each read from its fields
abbrev pub messages : {A : Type 0} → ℕ → (List WireField → A) → List WireField → List A
messages number read fields = map (λ part. read (fields_in part)) (parts number fields)

-- the fields of a singular message: where it comes more than once, its occurrences are merged
abbrev pub merged : ℕ → List WireField → List WireField
merged number fields = flat_map fields_in (parts number fields)
