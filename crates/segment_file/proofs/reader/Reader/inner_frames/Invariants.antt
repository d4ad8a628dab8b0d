use Rattle.std.proofs.Common.{◌≡◌, [], length}
use Rattle.segment_file.specs.Fields.{each_of}
use Rattle.segment_file.specs.ReadFields.{inner_frame_fields}
use Rattle.segment_file.specs.Reading.{Took}
use Rattle.segment_file.proofs.reader.Reader.inner_frames.Given as goal

abbrev pub invariant-loop : goal.invariant-loop
invariant-loop l = (length l.frames.items ≡ l.counter) × Took (each_of inner_frame_fields [] l.frames.items) l.fn.self.cursor l.self.cursor
