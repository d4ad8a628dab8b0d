use Rattle.std.proofs.Common.{◌≡◌, ◌++◌, take}
use Rattle.std.specs.List.{flat_map}
use Rattle.pprof_codec.specs.Frames.{frames_at}
use Rattle.pprof_codec.proofs.BuildLemmas.{leaf_first}
use Rattle.pprof_codec.proofs.stacks.build_stack.Given as goal

abbrev pub invariant-loop-id : goal.invariant-loop-id
invariant-loop-id l = l.frames.items ≡ leaf_first l.sample.location_ids.now ++ flat_map (frames_at l.judged.message) (take l.id-index l.sample.location_ids.now)
