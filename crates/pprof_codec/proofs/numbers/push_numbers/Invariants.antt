use Rattle.std.proofs.Common.{◌≡◌, ◌++◌, take}
use Rattle.pprof_codec.proofs.numbers.push_numbers.Given as goal

abbrev pub invariant-loop-number : goal.invariant-loop-number
invariant-loop-number l = l.numbers.items ≡ l.fn.numbers.items ++ take l.number-index l.number-items
