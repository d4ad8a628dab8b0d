use Rattle.std.proofs.Common.{◌≡◌, ◌-◌, ◌^◌, ◌<◌, ◌≤◌, drop}
use Rattle.wire_proto.specs.Reading.{varint_within, varint_at}
use Rattle.wire_proto.proofs.VarintSteps.{resumed}
use Rattle.wire_proto.proofs.varint.read_groups.Given as goal

abbrev pub invariant-loop-index : goal.invariant-loop-index
invariant-loop-index l = record {
  below_ten : l.index ≤ 9;
  weight : l.weight ≡ 128 ^ l.index;
  number : l.number < l.weight;
  so_far : varint_at l.at l.bytes ≡ resumed l.number l.weight (varint_within l.at (9 - l.index) (drop l.index l.bytes));
}
