use Rattle.std.proofs.Common.{◌≡◌, [], length}
use Rattle.segment_file.specs.Fields.{each_of}
use Rattle.segment_file.specs.Files.{label_fields}
use Rattle.segment_file.specs.Reading.{Took}
use Rattle.segment_file.proofs.reader.Reader.counted_labels.Given as goal

abbrev pub invariant-loop : goal.invariant-loop
invariant-loop l = (length l.labels ≡ l.counter) × Took (each_of label_fields [] l.labels) l.fn.self.cursor l.self.cursor
