use Rattle.std.proofs.Common.{◌≡◌}
use Rattle.std.specs.Prelude.{map}
use Rattle.std.specs.List.{range_with_len}
use Rattle.pprof_codec.specs.Tables.{AreFirsts, stack_at}
use Rattle.pprof_codec.proofs.numbers.stack_numbers.Given as goal

abbrev pub invariant-loop-at : goal.invariant-loop-at
invariant-loop-at l = record {
  numbered : map (stack_at l.judged.message) l.numbers.items ≡ map (stack_at l.judged.message) (range_with_len 0 l.at);
  firsts : AreFirsts l.judged.message l.firsts.entries;
}
