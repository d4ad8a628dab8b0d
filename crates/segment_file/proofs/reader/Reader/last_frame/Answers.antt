use Rattle.std.proofs.Common.{◌≡◌, true, false, refl, rules, sym, ap, ◌∙◌}
use Rattle.faults.specs.Answers.{IfFault}
use Rattle.faults.specs.declared.refused.Refused.TheVariants.{Fault}
use Rattle.segment_file.specs.Files.{is_frame}
use Rattle.segment_file.specs.ReadFields.{alone, is_above_stacks, is_last_frame, judged}
use Rattle.segment_file.specs.Reading.{Begins, IsContentAt, Stopped, is_kept}
use Rattle.segment_file.proofs.ReadAnswers.{exit, handed}
use Rattle.segment_file.proofs.ReadLemmas.{text_cut}
use Rattle.segment_file.proofs.ReadStacks.{last_read, last_too_low, last_wrong}
use Rattle.segment_file.proofs.reader.Reader.last_frame.Goals as goal

pub returns-in_err-text-clause-read : goal.returns-in_err-text-clause-read
returns-in_err-text-clause-read c =
    let judge = is_last_frame c.args.sums.now c.args.frames.items in
    let from = c.args.self.now.cursor in
    handed c.from_residual.result (Fault c.in_err-text.field-0.0) _ (IfFault (Stopped (Begins (alone (judged judge))) from)) c.from_residual.ensures.1
    (text_cut judge from c.in_err-text.field-0.0 c.in_err-text.ensures)

pub returns-in_err-frame-clause-read : goal.returns-in_err-frame-clause-read
returns-in_err-frame-clause-read c =
    let before = c.args.sums.now in
    let frames = c.args.frames.items in
    let from = c.args.self.now.cursor in
    let text = c.in_ok-text.text.now in
    exit c.from_residual-in_err-frame.result c.in_err-frame.field-0.0 _ (IsContentAt (is_kept (is_frame text) text) from.at)
    (Stopped (Begins (alone (judged (is_last_frame before frames)))) from) c.from_residual-in_err-frame.ensures.1
    (λ fault content. last_wrong before frames from c.text.new.self text fault c.in_ok-text.ensures content)
    (rw (c.at-at.ensures, c.is_frame.ensures) at c.in_err-frame.ensures)

pub returns-then-not-is_above-clause-read : goal.returns-then-not-is_above-clause-read
returns-then-not-is_above-clause-read c =
    let before = c.args.sums.now in
    let frames = c.args.frames.items in
    let stack = c.in_ok-stack.ensures ∙ c.in_ok-push.ensures.items in
    let low : c.is_above.result ≡ false = search rules in
    rw c.content.ensures
    (last_too_low before frames c.args.self.now.cursor c.text.new.self c.in_ok-text.text.now c.in_ok-frame.frame _ c.in_ok-text.ensures c.in_ok-frame.ensures.1
    (ap (is_above_stacks before) (sym stack) ∙ sym c.is_above.ensures ∙ low) refl c.at-at.ensures)

pub returns-clause-read : goal.returns-clause-read
returns-clause-read c =
    let before = c.args.sums.now in
    let frames = c.args.frames.items in
    let stack = c.in_ok-stack.ensures ∙ c.in_ok-push.ensures.items in
    let high : c.is_above.result ≡ true = search rules in (
      c.in_ok-frame.frame,
      stack,
      last_read before frames c.args.self.now.cursor c.text.new.self c.in_ok-text.text.now c.in_ok-frame.frame c.in_ok-text.ensures
          (rw c.is_frame.ensures at c.in_ok-frame.ensures) (ap (is_above_stacks before) (sym stack) ∙ sym c.is_above.ensures ∙ high),
    )
