-- Where the first thing stands that can't be read: in the order of the bytes, the fields of a message that is read
-- where it stands. Places count from the first byte of the whole.
use Rattle.std.specs.Prelude.{ℕ, List, [], ◌∷◌, Option, Some, None, option_and_then, option_map, if◌then◌else◌}
use Rattle.std.specs.Option.{option_or}
use Rattle.wire_proto.specs.declared.field.WireFault.{WireFault}
use Rattle.wire_proto.specs.declared.field.WireFault.TheVariants.{Truncated, BadVarint, BadType}
use Rattle.wire_proto.specs.Message.{WireField, Message}
use Rattle.wire_proto.specs.Reading.{fields_of}
use Rattle.pprof_message.specs.Fields.{Part, part_of, packed}

abbrev pub place_of : WireFault → ℕ
place_of (Truncated at) = at
place_of (BadVarint at) = at
place_of (BadType at) = at

-- ---- one message, given what is broken inside each of its fields

-- the first that is broken inside a field, else the message's own fault, behind its last field
abbrev pub first_broken : (WireField → Option ℕ) → List WireField → Option WireFault → Option ℕ
first_broken inside [] fault = option_map place_of fault
first_broken inside (f ∷ fs) fault = option_or (inside f) (first_broken inside fs fault)

abbrev pub broken_in : (WireField → Option ℕ) → Message → Option ℕ
broken_in inside message = first_broken inside message.fields message.fault

-- the same of a message that stands in a part
abbrev pub broken_part : (WireField → Option ℕ) → Part → Option ℕ
broken_part inside part = broken_in inside (fields_of part.bytes part.at)

-- ---- what is broken inside a field

-- a number or a text: nothing
abbrev pub no_part : WireField → Option ℕ
no_part f = None

-- in the message that the field of this number holds
abbrev pub in_message : ℕ → (WireField → Option ℕ) → WireField → Option ℕ
in_message number inside f = option_and_then (broken_part inside) (part_of number f)

-- packed numbers that can't be read have the place of their field
abbrev pub in_packed : ℕ → WireField → Option ℕ
in_packed number f = option_and_then (λ part. if (packed part.bytes).is_whole then None else Some f.at) (part_of number f)

-- ---- the messages of a profile, of which value types, labels, lines and functions hold numbers alone

abbrev pub in_sample : WireField → Option ℕ
in_sample f = option_or (in_packed 1 f) (option_or (in_packed 2 f) (in_message 3 no_part f))

abbrev pub in_location : WireField → Option ℕ
in_location f = in_message 4 no_part f

abbrev pub in_pprof : WireField → Option ℕ
in_pprof f =
    option_or (in_message 1 no_part f) (option_or (in_message 2 in_sample f)
    (option_or (in_message 4 in_location f) (option_or (in_message 5 no_part f) (in_message 11 no_part f))))

-- the place of the first thing in a profile's bytes that can't be read
abbrev pub broken_place : List ℕ → Option ℕ
broken_place bytes = broken_in in_pprof (fields_of bytes 0)
