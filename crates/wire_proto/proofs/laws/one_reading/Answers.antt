use Rattle.wire_proto.proofs.Readings.{reads, only, one}
use Rattle.wire_proto.proofs.laws.one_reading.Goals as goal

pub returns : goal.returns
returns c = record { reads = reads; only = only; one = one }
