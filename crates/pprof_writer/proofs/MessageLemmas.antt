-- A written message is read as its fields.
use Rattle.std.proofs.Common.{◌≡◌, ◌==◌, ℕ, ◌+◌, ◌^◌, ◌<◌, ◌≤◌, List, [], ◌∷◌, ◌++◌, length, map, Bool, true, false, cond, Option, Some, None, refl, ap, ◌∙◌}
use Rattle.std.specs.Option.{option_or}
use Rattle.std.specs.List.{AllByRecursion, cons_option, flat_map}
use Rattle.wire_proto.specs.Field.{Varint, Bytes, last_number}
use Rattle.wire_proto.specs.Message.{WireField, Message, with_first}
use Rattle.wire_proto.specs.Reading.{fields_of}
use Rattle.wire_proto.specs.Writing.{bytes_field, number_field}
use Rattle.wire_proto.proofs.Messages.{fields_of-none}
use Rattle.wire_proto.proofs.Written.{bytes_is_read, number_is_read}
use Rattle.pprof_message.specs.Broken.{broken_in, broken_part, first_broken}
use Rattle.pprof_message.specs.Fields.{Part, fields_in, messages, parts}
use Rattle.pprof_writer.specs.Fields as written
use Rattle.pprof_writer.specs.Fields.{Field, Number, message, spelled}

-- ---- fields that can be read again

pub record IsNumber (number n : ℕ) : Type 0 where
  pub not_zero : 1 ≤ number
  pub at_most_last : number ≤ last_number
  pub small : n < 2 ^ 64

pub record IsPart (number : ℕ) (bytes : List ℕ) : Type 0 where
  pub not_zero : 1 ≤ number
  pub at_most_last : number ≤ last_number
  pub short : length bytes < 2 ^ 64

abbrev pub IsSound : Field → Type 0
IsSound (Number number n) = IsNumber number n
IsSound (written.Part number bytes) = IsPart number bytes

abbrev pub AreSound : List Field → Type 0
AreSound fields = AllByRecursion IsSound fields

-- ---- where they stand

abbrev pub number_at : ℕ → ℕ → ℕ → WireField
number_at at number n = record { number = number; at = at; end = at + length (number_field number n); value = Varint n }

abbrev pub part_at : ℕ → ℕ → List ℕ → WireField
part_at at number bytes = record { number = number; at = at; end = at + length (bytes_field number bytes); value = Bytes bytes }

abbrev pub placed : ℕ → List Field → List WireField
placed at [] = []
placed at (Number number n ∷ fields) = cond (n == 0) (placed at fields) (number_at at number n ∷ placed (at + length (number_field number n)) fields)
placed at (written.Part number bytes ∷ fields) = part_at at number bytes ∷ placed (at + length (bytes_field number bytes)) fields

abbrev pub whole : List WireField → Message
whole fields = record { fields = fields; fault = None }

pub message-read : (fields : List Field) (at : ℕ) → AreSound fields → fields_of (message fields) at ≡ whole (placed at fields)
message-read [] at sound = fields_of-none [] at refl
message-read (Number number n ∷ fields) at sound = by (n == 0) (λ a. message-read fields a sound.1)
  where
    by : (b : Bool) → ((a : ℕ) → fields_of (message fields) a ≡ whole (placed a fields))
        → fields_of (cond b [] (number_field number n) ++ message fields) at
        ≡ whole (cond b (placed at fields) (number_at at number n ∷ placed (at + length (number_field number n)) fields))
    by true rest = rest at
    by false rest =
        number_is_read number n at (message fields) sound.0.not_zero sound.0.at_most_last sound.0.small
        ∙ ap (with_first (number_at at number n)) (rest (at + length (number_field number n)))
message-read (written.Part number bytes ∷ fields) at sound =
    bytes_is_read number at bytes (message fields) sound.0.not_zero sound.0.at_most_last sound.0.short
    ∙ ap (with_first (part_at at number bytes)) (message-read fields (at + length (bytes_field number bytes)) sound.1)

-- ---- what they hold

-- the bytes of fields of this number
abbrev pub bytes_in : ℕ → Field → List (List ℕ)
bytes_in number (Number other n) = []
bytes_in number (written.Part other bytes) = cond (other == number) (bytes ∷ []) []

abbrev pub held : ℕ → List Field → List (List ℕ)
held number fields = flat_map (bytes_in number) fields

pub none-either : {X : Type 0} (c : Bool) → cond {A = Option X} c None None ≡ None
none-either true = refl
none-either false = refl

number-step : {A : Type 0} (number : ℕ) (read : List WireField → A) (at other n : ℕ) (b : Bool) (all rest : List WireField) (view : List A)
    → messages number read all ≡ view → messages number read rest ≡ view
    → messages number read (cond b all (number_at at other n ∷ rest)) ≡ view
number-step number read at other n true all rest view left right = left
number-step number read at other n false all rest view left right =
    ap (λ o. map (λ part. read (fields_in part)) (cons_option o (parts number rest))) (none-either (other == number)) ∙ right

-- each of these bytes is read so, wherever it stands
abbrev pub AreRead : {A : Type 0} → (List WireField → A) → (List ℕ → A) → List (List ℕ) → Type 0
AreRead read view held = AllByRecursion (λ bytes. (place : ℕ) → read (fields_of bytes place).fields ≡ view bytes) held

part-step : {A : Type 0} (read : List WireField → A) (view : List ℕ → A) (bytes : List ℕ) (place : ℕ) (b : Bool) (more : List Part) (others : List (List ℕ))
    → AreRead read view (cond b (bytes ∷ []) [] ++ others) → (AreRead read view others → map (λ part. read (fields_in part)) more ≡ map view others)
    → map (λ part. read (fields_in part)) (cons_option (cond b (Some (record { bytes = bytes; at = place })) None) more) ≡ map view (cond b (bytes ∷ []) [] ++ others)
part-step read view bytes place true more others reads rest = (λ i. reads.0 place i ∷ rest reads.1 i)
part-step read view bytes place false more others reads rest = rest reads

-- messages that are read from their bytes
pub messages-placed : {A : Type 0} (number : ℕ) (read : List WireField → A) (view : List ℕ → A) (fields : List Field) (at : ℕ)
    → AreRead read view (held number fields) → messages number read (placed at fields) ≡ map view (held number fields)
messages-placed number read view [] at reads = refl
messages-placed number read view (Number other n ∷ fields) at reads =
    number-step number read at other n (n == 0) (placed at fields) (placed (at + length (number_field other n)) fields) (map view (held number fields))
    (messages-placed number read view fields at reads) (messages-placed number read view fields (at + length (number_field other n)) reads)
messages-placed number read view (written.Part other bytes ∷ fields) at reads =
    part-step read view bytes _ (other == number) (parts number (placed (at + length (bytes_field other bytes)) fields)) (held number fields) reads
    (λ r. messages-placed number read view fields (at + length (bytes_field other bytes)) r)

-- ---- what is broken in them: nothing

-- nothing is broken inside a field, wherever it stands
abbrev pub IsUnbroken : (WireField → Option ℕ) → Field → Type 0
IsUnbroken inside (Number number n) = (at : ℕ) → inside (number_at at number n) ≡ None
IsUnbroken inside (written.Part number bytes) = (at : ℕ) → inside (part_at at number bytes) ≡ None

number-unbroken : (inside : WireField → Option ℕ) (field : WireField) (b : Bool) (all rest : List WireField) → inside field ≡ None
    → first_broken inside all None ≡ None → first_broken inside rest None ≡ None → first_broken inside (cond b all (field ∷ rest)) None ≡ None
number-unbroken inside field true all rest here left right = left
number-unbroken inside field false all rest here left right = ap (λ o. option_or o (first_broken inside rest None)) here ∙ right

pub unbroken : (inside : WireField → Option ℕ) (fields : List Field) (at : ℕ) → AllByRecursion (IsUnbroken inside) fields → first_broken inside (placed at fields) None ≡ None
unbroken inside [] at whole = refl
unbroken inside (Number number n ∷ fields) at whole =
    number-unbroken inside (number_at at number n) (n == 0) (placed at fields) (placed (at + length (number_field number n)) fields) (whole.0 at)
    (unbroken inside fields at whole.1) (unbroken inside fields (at + length (number_field number n)) whole.1)
unbroken inside (written.Part number bytes ∷ fields) at whole =
    ap (λ o. option_or o (first_broken inside (placed (at + length (bytes_field number bytes)) fields) None)) (whole.0 at)
    ∙ unbroken inside fields (at + length (bytes_field number bytes)) whole.1

-- a message of sound fields has nothing broken in it
pub message-unbroken : (inside : WireField → Option ℕ) (fields : List Field) (part : Part) → part.bytes ≡ message fields → AreSound fields
    → AllByRecursion (IsUnbroken inside) fields → broken_part inside part ≡ None
message-unbroken inside fields part is sound whole =
    ap (λ bytes. broken_in inside (fields_of bytes part.at)) is ∙ ap (broken_in inside) (message-read fields part.at sound) ∙ unbroken inside fields part.at whole
