use Rattle.wire_proto.proofs.Written.{varint_is_shortest}
use Rattle.wire_proto.proofs.laws.varint_is_shortest.Goals as goal

pub returns : goal.returns
returns c = varint_is_shortest
