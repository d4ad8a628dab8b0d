use Rattle.std.proofs.Common.{◌≡◌, [], length, map}
use Rattle.segment_file.specs.Fields.{each_of}
use Rattle.segment_file.specs.Objects.{profile_said}
use Rattle.segment_file.specs.ReadFields.{each_profile}
use Rattle.segment_file.specs.Reading.{Took}
use Rattle.segment_file.proofs.reader.Reader.counted_profiles.Given as goal

abbrev pub invariant-loop : goal.invariant-loop
invariant-loop l =
    (length (map profile_said l.profiles.items) ≡ l.counter) × Took (each_of each_profile [] (map profile_said l.profiles.items)) l.fn.self.cursor l.self.cursor
