use Rattle.std.proofs.Common.{◌≡◌, ◌++◌, drop}
use Rattle.std.specs.List.{All, flat_map}
use Rattle.std.specs.Str.{IsUtf8}
use Rattle.segment_file.specs.Bytes.{stack_bytes, text_bytes}
use Rattle.segment_file.proofs.encode.put_stack.Given as goal

abbrev pub invariant-loop-frame : goal.invariant-loop-frame
invariant-loop-frame l = record {
  bytes : l.out.items ++ flat_map text_bytes (drop l.frame-index l.frames) ≡ l.fn.out.items ++ stack_bytes l.frames;
  frames : All IsUtf8 (drop l.frame-index l.frames) → All IsUtf8 l.frames;
}
