use Rattle.std.proofs.Common.{arith, ℕ}
use Rattle.std.proofs.lemmas.Int.Digits.{digits_value_more}
use Rattle.wire_forms.proofs.DigitLemmas.{digit_at}
use Rattle.wire_forms.proofs.decimal.value_of.Goals as goal

pub loop-digit-preserved : goal.loop-digit-preserved
loop-digit-preserved c =
    let digits = c.args.digits.now in
    let i : ℕ = c.loop-digit.digit-index in
    let more = digits_value_more 10 digits i c.loop-digit-test.true in
    let digit = digit_at digits i c.loop-digit-test.true c.requires in
    omega (arith, more, digit, c.value_of_digit.ensures, c.loop-digit.invariant)
