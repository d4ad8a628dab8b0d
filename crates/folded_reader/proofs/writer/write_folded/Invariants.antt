use Rattle.std.proofs.Common.{◌≡◌, ◌++◌}
use Rattle.folded_reader.specs.Written.{written_text}
use Rattle.folded_reader.proofs.writer.write_folded.Given as goal

abbrev pub invariant-loop-stack : goal.invariant-loop-stack
invariant-loop-stack l = l.text.items ++ written_text l.stack-iterator ≡ written_text l.values
