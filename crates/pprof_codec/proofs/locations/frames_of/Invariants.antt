use Rattle.std.proofs.Common.{◌≡◌, take}
use Rattle.std.specs.Prelude.{map}
use Rattle.pprof_message.specs.Pprof.{Pprof}
use Rattle.pprof_codec.specs.Frames.{line_frame}
use Rattle.pprof_codec.specs.Tables.{AreFunctions}
use Rattle.pprof_codec.proofs.locations.frames_of.Given as goal

abbrev pub invariant-loop-id : goal.invariant-loop-id
invariant-loop-id l = (pprof : Pprof) → AreFunctions pprof l.functions.ids l.functions.frames.items → l.names.items ≡ take l.id-index (map (line_frame pprof) l.location.lines.now)
