use Rattle.std.proofs.Common.{◌≡◌, ◌+◌, ◌-◌, ◌^◌, ◌≤◌, length, min}
use Rattle.folded_reader.specs.Written.{written_text}
use Rattle.folded_reader.proofs.writer.length_of.Given as goal

abbrev pub invariant-loop-stack : goal.invariant-loop-stack
invariant-loop-stack l = record {
  fits : l.length ≤ 2 ^ 64 - 1;
  left : min (l.length + length (written_text l.stack-iterator)) (2 ^ 64 - 1) ≡ min (length (written_text l.values)) (2 ^ 64 - 1);
}
