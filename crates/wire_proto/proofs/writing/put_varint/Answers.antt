use Rattle.std.proofs.Common.{◌≡◌, ◌+◌, ◌<◌, set, take, refl, ◌∙◌, arith}
use Rattle.std.proofs.lemmas.List.{length-set}
use Rattle.wire_proto.specs.Writing.{varint}
use Rattle.wire_proto.proofs.VarintWriting.{below_nine, small_more, groups_more, written_last, extended}
use Rattle.wire_proto.proofs.writing.put_varint.Goals as goal

pub loop-rest-init : goal.loop-rest-init
unfolding varint
loop-rest-init c = record { room = refl; below_ten = omega arith; small = omega (arith, c.ranges.v); so_far = refl }

pub loop-rest-preserved : goal.loop-rest-preserved
loop-rest-preserved c =
    let loop = c.loop-rest in
    let nine : loop.length < 9 = below_nine loop.length loop.rest loop.invariant.below_ten loop.invariant.small c.loop-rest-test.true in
    record {
      room = simp length-set loop.invariant.room;
      below_ten = omega arith;
      small = small_more loop.length loop.rest nine loop.invariant.small;
      so_far = groups_more loop.length loop.rest loop.spelling nine (omega arith) c.loop-rest-test.true ∙ loop.invariant.so_far;
    }

pub returns-clause-bytes : goal.returns-clause-bytes
returns-clause-bytes c =
    let loop = c.loop-rest in
    let whole : take (loop.length + 1) (set loop.spelling loop.length loop.rest) ≡ varint c.args.v = written_last loop.length loop.rest loop.spelling (omega arith) c.loop-rest-test.false ∙ loop.invariant.so_far in
    extended c.extend_from_slice.result c.extend_from_slice.new.self.items c.args.out.now.items _ (varint c.args.v) c.extend_from_slice.ensures.items whole
