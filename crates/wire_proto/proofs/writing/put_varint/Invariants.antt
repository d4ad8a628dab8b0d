use Rattle.std.proofs.Common.{◌≡◌, ◌-◌, ◌*◌, ◌^◌, ◌<◌, ◌≤◌, ◌++◌, length, take}
use Rattle.wire_proto.specs.Writing.{varint, groups_of}
use Rattle.wire_proto.proofs.writing.put_varint.Given as goal

abbrev pub invariant-loop-rest : goal.invariant-loop-rest
invariant-loop-rest l = record {
  room : length l.spelling ≡ 10;
  below_ten : l.length ≤ 9;
  small : l.rest < 2 ^ (64 - 7 * l.length);
  so_far : take l.length l.spelling ++ groups_of (9 - l.length) l.rest ≡ varint l.v;
}

abbrev pub decreases-loop-rest : goal.decreases-loop-rest
decreases-loop-rest l = l.rest
