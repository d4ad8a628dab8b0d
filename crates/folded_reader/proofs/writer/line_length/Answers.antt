use Rattle.std.proofs.Common.{◌≡◌, ◌+◌, ◌-◌, ◌^◌, ◌∙◌, ap, sym, length, take, min, arith}
use Rattle.std.specs.Prelude.{decimal}
use Rattle.std.specs.List.{sum_by}
use Rattle.std.proofs.lemmas.List.{take_all}
use Rattle.folded_reader.proofs.WriterLemmas.{length-written_line}
use Rattle.folded_reader.proofs.writer.line_length.Goals as goal

pub returns : goal.returns
returns c =
    let stack = c.frames-frame-items.result.now in
    let some = c.frames-frame-items.ensures.limits.some in
    let value : stack ≡ c.args.stack.now = c.frames-frame-items.ensures.value in
    let all : take c.loop-frame.frame-index stack ≡ stack = take_all c.loop-frame.frame-index stack (omega arith) in
    c.loop-frame.invariant ∙ ap (λ frames. min (length (decimal c.args.value) + 1 + sum_by (λ f. length f + 1) frames) (2 ^ 64 - 1)) (all ∙ value)
    ∙ ap (λ n. min n (2 ^ 64 - 1)) (sym (length-written_line c.args.stack.now c.args.value some))
