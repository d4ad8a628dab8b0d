use Rattle.std.proofs.Common.{◌≡◌, ◌+◌, ◌-◌, ◌^◌, ◌≤◌, drop, length, min}
use Rattle.std.specs.List.{flat_map}
use Rattle.segment_file.specs.Bytes.{push_bytes}
use Rattle.segment_file.proofs.length.pushes_length.Given as goal

abbrev pub invariant-loop-push : goal.invariant-loop-push
invariant-loop-push l = record {
  fits : l.length ≤ 2 ^ 64 - 1;
  left : min (l.length + length (flat_map push_bytes (drop l.push-index l.pushes))) (2 ^ 64 - 1) ≡ min (length (flat_map push_bytes l.pushes)) (2 ^ 64 - 1);
}
