use Rattle.wire_proto.proofs.Readings.{first_is_read}
use Rattle.wire_proto.proofs.laws.first_field_is_read.Goals as goal

pub returns : goal.returns
returns c = first_is_read
