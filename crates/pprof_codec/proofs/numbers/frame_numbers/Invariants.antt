use Rattle.std.proofs.Common.{◌≡◌, take}
use Rattle.std.specs.Prelude.{map}
use Rattle.std.specs.List.{flat_map}
use Rattle.pprof_codec.specs.Frames.{frames_at}
use Rattle.pprof_codec.specs.Tables.{frame_numbered}
use Rattle.pprof_codec.proofs.numbers.frame_numbers.Given as goal

abbrev pub invariant-loop-id : goal.invariant-loop-id
invariant-loop-id l = map (frame_numbered l.judged.message) l.numbers.items ≡ flat_map (frames_at l.judged.message) (take l.id-index l.sample.location_ids.now)
