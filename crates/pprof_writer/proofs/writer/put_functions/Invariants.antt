use Rattle.std.proofs.Common.{◌≡◌, ◌++◌, take}
use Rattle.std.specs.List.{enumerate_from}
use Rattle.pprof_writer.specs.Fields.{message}
use Rattle.pprof_writer.specs.Written.{fields_with, written_function}
use Rattle.pprof_writer.proofs.writer.put_functions.Given as goal

abbrev pub invariant-loop-at : goal.invariant-loop-at
invariant-loop-at l = l.out.items ≡ l.fn.out.items ++ message (fields_with 5 written_function (enumerate_from 1 (take l.at l.places)))
