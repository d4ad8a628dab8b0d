use Rattle.std.proofs.Common.{◌≡◌, ◌++◌, drop}
use Rattle.std.specs.List.{All, flat_map}
use Rattle.segment_file.specs.Bytes.{push_bytes}
use Rattle.segment_file.specs.Objects.{IsPush}
use Rattle.segment_file.proofs.encode.put_pushes.Given as goal

abbrev pub invariant-loop-push : goal.invariant-loop-push
invariant-loop-push l = record {
  bytes : l.out.items ++ flat_map push_bytes (drop l.push-index l.pushes) ≡ l.fn.out.items ++ flat_map push_bytes l.pushes;
  rules : All IsPush (drop l.push-index l.pushes) → All IsPush l.pushes;
}
