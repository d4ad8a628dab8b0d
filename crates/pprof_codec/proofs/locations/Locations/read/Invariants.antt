use Rattle.std.proofs.Common.{◌≡◌, [], take}
use Rattle.std.specs.Prelude.{map}
use Rattle.pprof_codec.specs.Frames.{location_frames}
use Rattle.pprof_codec.specs.Checks.{faults_of_each, faults_of_location}
use Rattle.pprof_codec.specs.Tables.{frame_numbered}
use Rattle.pprof_codec.proofs.locations.Locations.read.Given as goal

abbrev pub invariant-loop-number : goal.invariant-loop-number
invariant-loop-number l = record {
  known : l.ids ≡ take l.number (map (λ one. one.id) l.message.locations);
  framed : l.frames.items ≡ take l.number (map (location_frames l.message) l.message.locations);
  numbered : map (λ one. map (frame_numbered l.message) one.items) l.numbers.items ≡ take l.number (map (location_frames l.message) l.message.locations);
  judged : faults_of_each (λ number location. faults_of_location l.message (take number (map (λ one. one.id) l.message.locations)) number location) (take l.number l.message.locations) ≡ [];
}
