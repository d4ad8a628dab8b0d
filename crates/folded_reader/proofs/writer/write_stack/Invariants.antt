use Rattle.std.proofs.Common.{◌≡◌, ◌++◌, take}
use Rattle.folded_reader.specs.Written.{written_stack}
use Rattle.folded_reader.proofs.writer.write_stack.Given as goal

abbrev pub invariant-loop-at : goal.invariant-loop-at
invariant-loop-at l = l.text.items ≡ l.fn.text.items ++ written_stack (take l.at l.frame-items)
