use Rattle.std.proofs.Common.{◌≡◌, [], length, map}
use Rattle.segment_file.specs.Fields.{each_of}
use Rattle.segment_file.specs.Objects.{push_said}
use Rattle.segment_file.specs.ReadFields.{each_push}
use Rattle.segment_file.specs.Reading.{Took}
use Rattle.segment_file.proofs.reader.Reader.pushes.Given as goal

abbrev pub invariant-loop : goal.invariant-loop
invariant-loop l =
    (length (map push_said l.pushes.items) ≡ l.counter) × Took (each_of each_push [] (map push_said l.pushes.items)) l.fn.self.cursor l.self.cursor
