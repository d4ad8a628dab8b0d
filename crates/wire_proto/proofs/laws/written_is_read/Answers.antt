use Rattle.wire_proto.proofs.Written.{varint_is_read, number_is_read, bytes_is_read}
use Rattle.wire_proto.proofs.laws.written_is_read.Goals as goal

pub returns : goal.returns
returns c = record { varint = varint_is_read; number = number_is_read; bytes = bytes_is_read }
