use Rattle.std.proofs.Common.{◌≡◌, ◌+◌, ◌*◌, ◌≤◌, ℕ, List, length, take, sum_by}
use Rattle.profile_model.specs.Limits.{most_frame_bytes}
use Rattle.profile_model.proofs.weight.weight_of_frames.Given as goal

abbrev pub invariant-loop-frame : goal.invariant-loop-frame
invariant-loop-frame l = record {
  summed : l.weight ≡ sum_by (λ (frame : List ℕ). 16 + length frame) (take l.frame-index l.frames);
  bounded : l.weight ≤ (16 + most_frame_bytes) * l.frame-index;
}
