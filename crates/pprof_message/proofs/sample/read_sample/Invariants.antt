use Rattle.std.proofs.Common.{◌≡◌, length}
use Rattle.wire_proto.specs.Reading.{fields_of}
use Rattle.pprof_message.specs.Fields.{fields_in}
use Rattle.pprof_message.specs.Broken.{broken_in, broken_part, in_sample}
use Rattle.pprof_message.specs.Readers.{sample_with}
use Rattle.pprof_message.proofs.sample.read_sample.Given as goal

abbrev pub invariant-loop-found : goal.invariant-loop-found
invariant-loop-found l = record {
  broken : broken_in in_sample (fields_of l.fields.left l.fields.at) ≡ broken_part in_sample l.part;
  gathered : sample_with l.samples (fields_of l.fields.left l.fields.at).fields ≡ sample_with l.fn.samples (fields_in l.part);
}

abbrev pub decreases-loop-found : goal.decreases-loop-found
decreases-loop-found l = length l.fields.left
