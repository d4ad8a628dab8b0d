use Rattle.std.proofs.Common.{◌≡◌, ◌+◌, ◌-◌, ◌^◌, ◌≤◌, drop, length, min}
use Rattle.std.specs.List.{flat_map}
use Rattle.segment_file.specs.Bytes.{text_bytes, stack_bytes}
use Rattle.segment_file.proofs.length.stack_length.Given as goal

abbrev pub invariant-loop-frame : goal.invariant-loop-frame
invariant-loop-frame l = record {
  fits : l.length ≤ 2 ^ 64 - 1;
  left : min (l.length + length (flat_map text_bytes (drop l.frame-index l.frame-items))) (2 ^ 64 - 1) ≡ min (length (stack_bytes l.frame-items)) (2 ^ 64 - 1);
}
