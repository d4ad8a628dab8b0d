use Rattle.std.proofs.Common.{◌≡◌, length, take, true}
use Rattle.std.specs.Prelude.{is_some, min}
use Rattle.std.specs.List.{flat_map, list_all}
use Rattle.pprof_message.specs.Pprof.{Pprof}
use Rattle.pprof_codec.specs.Frames.{frames_at}
use Rattle.pprof_codec.specs.Tables.{AreLocations, found_in}
use Rattle.pprof_codec.proofs.samples.depth_of.Given as goal

abbrev pub invariant-loop-id : goal.invariant-loop-id
invariant-loop-id l =
    (list_all (λ id. is_some (found_in l.locations.ids l.locations.frames.items id)) (take l.id-index l.ids) ≡ true)
    × ((pprof : Pprof) → AreLocations pprof l.locations.ids l.locations.frames.items →
    l.depth ≡ min (length (flat_map (frames_at pprof) (take l.id-index l.ids))) 1025)
