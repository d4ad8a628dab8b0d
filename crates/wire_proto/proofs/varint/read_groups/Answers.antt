use Rattle.std.proofs.Common.{◌≡◌, ◌<◌, ◌≤◌, get_or, sym, ◌∙◌, arith}
use Rattle.wire_proto.specs.Reading.{varint_within, varint_at}
use Rattle.wire_proto.proofs.VarintSteps.{resumed_start, resumed_more, resumed_last, resumed_over, resumed_cut, weight_more, number_more}
use Rattle.wire_proto.proofs.varint.read_groups.Goals as goal

pub loop-index-init : goal.loop-index-init
unfolding varint_at
loop-index-init c = record { below_ten = omega arith; weight = (cc); number = omega arith; so_far = sym (resumed_start (varint_within c.args.at 9 c.args.bytes.now)) }

pub returns-then-byte-gt-LAST_GROUP : goal.returns-then-byte-gt-LAST_GROUP
returns-then-byte-gt-LAST_GROUP c =
    let loop = c.loop-index in
    loop.invariant.so_far ∙ resumed_over c.args.at loop.number loop.weight loop.index c.args.bytes.now c.loop-index-test.true c.if-index-eq-LAST_INDEX.true c.if-byte-gt-LAST_GROUP.true

pub returns-then-byte-lt128 : goal.returns-then-byte-lt128
returns-then-byte-lt128 c =
    let loop = c.loop-index in
    let one : loop.index ≡ 9 → get_or c.args.bytes.now loop.index 0 ≤ 1 = λ ten. omega arith in
    rw c.from.ensures (loop.invariant.so_far ∙ resumed_last c.args.at loop.number loop.weight loop.index c.args.bytes.now c.loop-index-test.true loop.invariant.below_ten c.if-byte-lt128.true one)

pub loop-index-preserved : goal.loop-index-preserved
loop-index-preserved c =
    let loop = c.loop-index in
    let eight : loop.index < 9 = omega arith in
    rw c.from.ensures record {
      below_ten = omega arith;
      weight = weight_more loop.weight loop.index loop.invariant.weight;
      number = number_more loop.number loop.weight (get_or c.args.bytes.now loop.index 0) loop.invariant.number;
      so_far = loop.invariant.so_far ∙ resumed_more c.args.at loop.number loop.weight loop.index c.args.bytes.now c.loop-index-test.true eight c.if-byte-lt128.false (omega (arith, c.type_inv.bytes loop.index));
    }

pub returns : goal.returns
returns c =
    let loop = c.loop-index in
    loop.invariant.so_far ∙ resumed_cut c.args.at loop.number loop.weight loop.index c.args.bytes.now c.loop-index-test.false
