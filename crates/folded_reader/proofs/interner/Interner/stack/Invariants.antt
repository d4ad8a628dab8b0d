use Rattle.std.proofs.Common.{◌≡◌, length, take}
use Rattle.folded_reader.specs.Lines.{frames_of}
use Rattle.folded_reader.proofs.interner.Interner.stack.Given as goal

abbrev pub invariant-loop-frame : goal.invariant-loop-frame
invariant-loop-frame l = l.frames.items ≡ take (length l.yielded) (frames_of l.text)
