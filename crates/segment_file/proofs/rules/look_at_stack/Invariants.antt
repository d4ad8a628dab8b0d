use Rattle.std.proofs.Common.{drop}
use Rattle.std.specs.List.{All}
use Rattle.std.specs.Str.{IsUtf8}
use Rattle.segment_file.proofs.rules.look_at_stack.Given as goal

abbrev pub invariant-loop-frame : goal.invariant-loop-frame
invariant-loop-frame l = record { frames : All IsUtf8 (drop l.frame-index l.frames) → All IsUtf8 l.frames }
