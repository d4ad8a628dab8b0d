use Rattle.std.proofs.Common.{◌≡◌, fold, take}
use Rattle.std.specs.BTreeSet.{insert_key}
use Rattle.profile_model.specs.Stacks.{name_cmp}
use Rattle.pprof_writer.proofs.names.add_frames.Given as goal

abbrev pub invariant-loop-frame : goal.invariant-loop-frame
invariant-loop-frame l = l.frames.keys ≡ fold (insert_key name_cmp) l.fn.frames.keys (take l.frame-index l.stack)
