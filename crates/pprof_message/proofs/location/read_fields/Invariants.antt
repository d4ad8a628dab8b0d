use Rattle.std.proofs.Common.{◌≡◌, length}
use Rattle.wire_proto.specs.Reading.{fields_of}
use Rattle.pprof_message.specs.Fields.{fields_in}
use Rattle.pprof_message.specs.Broken.{broken_in, broken_part, in_location}
use Rattle.pprof_message.specs.Numbers.{last_numbers}
use Rattle.pprof_message.specs.Readers.{lines_with}
use Rattle.pprof_message.proofs.location.read_fields.Given as goal

abbrev pub invariant-loop-found : goal.invariant-loop-found
invariant-loop-found l = record {
  six : length l.numbers ≡ 6;
  broken : broken_in in_location (fields_of l.fields.left l.fields.at) ≡ broken_part in_location l.part;
  numbers : last_numbers l.numbers (fields_of l.fields.left l.fields.at).fields ≡ last_numbers l.fn.numbers (fields_in l.part);
  lines : lines_with l.lines (fields_of l.fields.left l.fields.at).fields ≡ lines_with l.fn.lines (fields_in l.part);
}

abbrev pub decreases-loop-found : goal.decreases-loop-found
decreases-loop-found l = length l.fields.left
