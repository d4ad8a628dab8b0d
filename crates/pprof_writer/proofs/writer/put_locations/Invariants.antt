use Rattle.std.proofs.Common.{◌≡◌, ◌++◌}
use Rattle.std.specs.List.{range_with_len}
use Rattle.pprof_writer.specs.Fields.{message}
use Rattle.pprof_writer.specs.Written.{fields_with, written_location}
use Rattle.pprof_writer.proofs.writer.put_locations.Given as goal

abbrev pub invariant-loop-at : goal.invariant-loop-at
invariant-loop-at l = l.out.items ≡ l.fn.out.items ++ message (fields_with 4 written_location (range_with_len 1 l.at))
