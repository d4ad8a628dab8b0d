use Rattle.std.proofs.Common.{◌≡◌, ◌+◌, ◌-◌, ◌^◌, ◌≤◌, length, min}
use Rattle.std.specs.List.{flat_map}
use Rattle.segment_file.specs.Bytes.{sample_bytes, values_bytes}
use Rattle.segment_file.proofs.length.values_length.Given as goal

abbrev pub invariant-loop-stack : goal.invariant-loop-stack
invariant-loop-stack l = record {
  fits : l.length ≤ 2 ^ 64 - 1;
  left : min (l.length + length (flat_map sample_bytes (l.stack-iterator))) (2 ^ 64 - 1) ≡ min (length (values_bytes l.values)) (2 ^ 64 - 1);
}
