-- What the readers of this crate promise one another.
use Rattle.std.specs.Prelude.{◌≡◌, ℕ, List, map, Option, Some, None, Result, Ok, Err, option_and_then, if◌then◌else◌}
use Rattle.std.specs.Option.{option_to_list}
use Rattle.wire_proto.specs.declared.field.WireFault.{WireFault}
use Rattle.wire_proto.specs.Message.{WireField, Message, empty, faulty, with_first}
use Rattle.pprof_message.specs.declared.fault.MessageFault.{MessageFault}
use Rattle.pprof_message.specs.declared.fault.MessageFault.TheVariants.{Broken}
use Rattle.pprof_message.specs.declared.gathered.Head.{Head}
use Rattle.pprof_message.specs.declared.gathered.Samples.{Samples}
use Rattle.pprof_message.specs.Fields.{part_in, fields_in, packed, singular, repeated, messages}
use Rattle.pprof_message.specs.Messages.{int64, label_of, line_of}
use Rattle.pprof_message.specs.Runs.{Runs, begun_with, closed_run}
use Rattle.pprof_message.specs.Broken.{place_of, broken_part}

-- a fact of what was read, where nothing is broken, else the broken place
abbrev pub IsRead : {A : Type 0} → Option ℕ → (A → Type 0) → Result A MessageFault → Type 0
IsRead broken P (Ok x) = (broken ≡ None) × P x
IsRead broken P (Err (Broken at)) = broken ≡ Some at

-- what comes first in a message, of which `rest` is then left: a field, its end, or its fault's place
abbrev pub TellsNext : Message → Message → Result (Option WireField) MessageFault → Type 0
TellsNext message rest (Ok (Some f)) = message ≡ with_first f rest
TellsNext message rest (Ok None) = message ≡ empty
TellsNext message rest (Err (Broken at)) = (fault : WireFault) × (message ≡ faulty fault) × (place_of fault ≡ at)

-- ---- one field, whatever its number

-- the message in the field, if it holds one
abbrev pub held : {A : Type 0} → (List WireField → A) → WireField → List A
held read f = map (λ part. read (fields_in part)) (option_to_list (part_in f.end f.value))

abbrev pub broken_held : (WireField → Option ℕ) → WireField → Option ℕ
broken_held inside f = option_and_then (broken_part inside) (part_in f.end f.value)

abbrev pub broken_packed : WireField → Option ℕ
broken_packed f = option_and_then (λ part. if (packed part.bytes).is_whole then None else Some f.at) (part_in f.end f.value)

-- ---- lists of lists

-- the sample that has begun, with what these fields add
abbrev pub sample_with : Samples → List WireField → Samples
sample_with samples fields = record {
  location_ids = begun_with samples.location_ids (repeated 1 fields);
  values = begun_with samples.values (map int64 (repeated 2 fields));
  labels = begun_with samples.labels (messages 3 label_of fields);
}

abbrev pub sample_closed : Samples → Samples
sample_closed samples = record { location_ids = closed_run samples.location_ids; values = closed_run samples.values; labels = closed_run samples.labels }

abbrev pub head_of : List WireField → Head
head_of fields = record { id = singular 1 fields; address = singular 3 fields }

abbrev pub lines_with : Runs ℕ → List WireField → Runs ℕ
lines_with lines fields = begun_with lines (messages 4 line_of fields)
