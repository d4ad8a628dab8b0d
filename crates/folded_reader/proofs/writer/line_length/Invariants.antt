use Rattle.std.proofs.Common.{◌≡◌, ◌+◌, ◌-◌, ◌^◌, length, take, min}
use Rattle.std.specs.Prelude.{decimal}
use Rattle.std.specs.List.{sum_by}
use Rattle.folded_reader.proofs.writer.line_length.Given as goal

abbrev pub invariant-loop-frame : goal.invariant-loop-frame
invariant-loop-frame l =
    l.length ≡ min (length (decimal l.fn.value) + 1 + sum_by (λ frame. length frame + 1) (take l.frame-index l.frame-items)) (2 ^ 64 - 1)
