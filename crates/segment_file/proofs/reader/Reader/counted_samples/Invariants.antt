use Rattle.std.proofs.Common.{◌≡◌, [], length}
use Rattle.segment_file.specs.Fields.{each_of}
use Rattle.segment_file.specs.Files.{sample_fields}
use Rattle.segment_file.specs.Reading.{Took}
use Rattle.segment_file.proofs.reader.Reader.counted_samples.Given as goal

abbrev pub invariant-loop : goal.invariant-loop
invariant-loop l = (length l.sums ≡ l.counter) × Took (each_of sample_fields [] l.sums) l.fn.self.cursor l.self.cursor
