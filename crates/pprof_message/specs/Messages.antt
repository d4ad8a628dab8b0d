-- The messages of pprof's profile.proto, from their fields. Fields that aren't named here are skipped.
use Rattle.std.specs.Prelude.{ℕ, ℤ, List, map}
use Rattle.std.specs.Int.{cast_signed, w64}
use Rattle.wire_proto.specs.Message.{WireField}
use Rattle.pprof_message.specs.declared.lists.ValueType.{ValueType}
use Rattle.pprof_message.specs.declared.lists.Label.{Label}
use Rattle.pprof_message.specs.declared.lists.Function.{Function}
use Rattle.pprof_message.specs.Pprof.{Sample, Location, Pprof}
use Rattle.pprof_message.specs.Fields.{singular, repeated, parts, messages, merged}

-- an int64 is the varint in two's complement
abbrev pub int64 : ℕ → ℤ
int64 n = cast_signed w64 n

abbrev pub value_type_of : List WireField → ValueType
value_type_of fields = record { kind = int64 (singular 1 fields); unit = int64 (singular 2 fields) }

abbrev pub label_of : List WireField → Label
label_of fields = record { key = int64 (singular 1 fields); text = int64 (singular 2 fields); num_unit = int64 (singular 4 fields) }

abbrev pub sample_of : List WireField → Sample
sample_of fields = record { location_ids = repeated 1 fields; values = map int64 (repeated 2 fields); labels = messages 3 label_of fields }

-- the id of the line's function
abbrev pub line_of : List WireField → ℕ
line_of fields = singular 1 fields

abbrev pub location_of : List WireField → Location
location_of fields = record { id = singular 1 fields; address = singular 3 fields; lines = messages 4 line_of fields }

abbrev pub function_of : List WireField → Function
function_of fields = record { id = singular 1 fields; name = int64 (singular 2 fields); system_name = int64 (singular 3 fields) }

abbrev pub pprof_of : List WireField → Pprof
pprof_of fields = record {
  sample_types = messages 1 value_type_of fields;
  samples = messages 2 sample_of fields;
  locations = messages 4 location_of fields;
  functions = messages 5 function_of fields;
  texts = map (λ part. part.bytes) (parts 6 fields);
  time_nanos = int64 (singular 9 fields);
  period_type = value_type_of (merged 11 fields);
}
