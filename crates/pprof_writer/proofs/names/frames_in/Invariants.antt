use Rattle.std.proofs.Common.{◌≡◌, fold}
use Rattle.std.specs.BTreeSet.{insert_key}
use Rattle.std.specs.List.{flat_map}
use Rattle.profile_model.specs.Stacks.{name_cmp}
use Rattle.pprof_writer.specs.Tables.{frames_in}
use Rattle.pprof_writer.proofs.names.frames_in.Given as goal

abbrev pub invariant-loop-stack : goal.invariant-loop-stack
invariant-loop-stack l = fold (insert_key name_cmp) l.frames.keys (flat_map (λ sample. sample.0) l.stack-iterator) ≡ frames_in l.values
