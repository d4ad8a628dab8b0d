use Rattle.std.proofs.Common.{◌≡◌, length}
use Rattle.wire_proto.specs.Reading.{fields_of}
use Rattle.pprof_message.specs.Fields.{fields_in}
use Rattle.pprof_message.specs.Broken.{broken_in, broken_part, in_pprof}
use Rattle.pprof_message.specs.Kept.{kept, kept_with}
use Rattle.pprof_message.proofs.reader.read_fields.Given as goal

abbrev pub invariant-loop-found : goal.invariant-loop-found
invariant-loop-found l = record {
  broken : broken_in in_pprof (fields_of l.fields.left l.fields.at) ≡ broken_part in_pprof l.part;
  gathered : kept_with (kept l.gathered) (fields_of l.fields.left l.fields.at).fields ≡ kept_with (kept l.fn.gathered) (fields_in l.part);
}

abbrev pub decreases-loop-found : goal.decreases-loop-found
decreases-loop-found l = length l.fields.left
