use Rattle.std.proofs.Common.{◌≡◌, length, map}
use Rattle.wire_proto.proofs.Varints.{IsBytes}
use Rattle.pprof_message.specs.Fields.{packed}
use Rattle.pprof_message.specs.Runs.{begun_with}
use Rattle.pprof_message.proofs.repeated.read_packed.Given as goal

abbrev pub invariant-loop-rest : goal.invariant-loop-rest
invariant-loop-rest g l = record {
  bytes : IsBytes l.rest;
  whole : (packed l.rest).is_whole ≡ (packed l.bytes).is_whole;
  gathered : begun_with l.runs (map g.T.Number.of_varint (packed l.rest).numbers) ≡ begun_with l.fn.runs (map g.T.Number.of_varint (packed l.bytes).numbers);
}

abbrev pub decreases-loop-rest : goal.decreases-loop-rest
decreases-loop-rest g l = length l.rest
