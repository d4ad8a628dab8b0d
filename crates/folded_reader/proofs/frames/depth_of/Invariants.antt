use Rattle.std.proofs.Common.{◌≡◌, length, take, ◌<◌}
use Rattle.std.specs.List.{All}
use Rattle.folded_reader.specs.Lines.{frames_of}
use Rattle.folded_reader.proofs.FrameLemmas.{TellsLong}
use Rattle.folded_reader.proofs.frames.depth_of.Given as goal

abbrev pub invariant-loop-frame : goal.invariant-loop-frame
invariant-loop-frame l = record {
  counted : l.depth ≡ length l.yielded;
  named : All (λ frame. 0 < length frame) (take (length l.yielded) (frames_of l.text));
  long : TellsLong l.has_long (take (length l.yielded) (frames_of l.text));
}
