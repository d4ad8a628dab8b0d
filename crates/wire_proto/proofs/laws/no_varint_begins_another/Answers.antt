use Rattle.wire_proto.proofs.Varints.{no_varint_begins_another}
use Rattle.wire_proto.proofs.laws.no_varint_begins_another.Goals as goal

pub returns : goal.returns
returns c = no_varint_begins_another
