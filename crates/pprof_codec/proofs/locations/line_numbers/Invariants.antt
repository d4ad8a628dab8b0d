use Rattle.std.proofs.Common.{◌≡◌, take}
use Rattle.std.specs.Prelude.{map}
use Rattle.pprof_codec.specs.Frames.{line_frame}
use Rattle.pprof_codec.specs.Tables.{frame_numbered}
use Rattle.pprof_codec.proofs.locations.line_numbers.Given as goal

abbrev pub invariant-loop-id : goal.invariant-loop-id
invariant-loop-id l = map (frame_numbered l.message) l.numbers.items ≡ take l.id-index (map (line_frame l.message) l.ids)
