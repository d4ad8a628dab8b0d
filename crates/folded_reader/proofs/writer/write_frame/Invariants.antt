use Rattle.std.proofs.Common.{◌≡◌, ◌++◌, take, map}
use Rattle.folded_reader.specs.Written.{written_byte}
use Rattle.folded_reader.proofs.writer.write_frame.Given as goal

abbrev pub invariant-loop-byte : goal.invariant-loop-byte
invariant-loop-byte l = l.text.items ≡ l.fn.text.items ++ map written_byte (take l.byte-index l.byte-items)
