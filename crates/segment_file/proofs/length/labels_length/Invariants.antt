use Rattle.std.proofs.Common.{◌≡◌, ◌+◌, ◌-◌, ◌^◌, ◌≤◌, drop, length, min}
use Rattle.std.specs.List.{flat_map}
use Rattle.segment_file.specs.Bytes.{label_bytes, labels_bytes}
use Rattle.segment_file.proofs.length.labels_length.Given as goal

abbrev pub invariant-loop-label : goal.invariant-loop-label
invariant-loop-label l = record {
  fits : l.length ≤ 2 ^ 64 - 1;
  left : min (l.length + length (flat_map label_bytes (drop l.label-index l.label-items))) (2 ^ 64 - 1) ≡ min (length (labels_bytes l.label-items)) (2 ^ 64 - 1);
}
