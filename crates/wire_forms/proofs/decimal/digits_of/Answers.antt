use Rattle.std.proofs.Common.{◌∙◌, sym}
use Rattle.wire_forms.proofs.DigitLemmas.{digits_read}
use Rattle.wire_forms.proofs.decimal.digits_of.Goals as goal

pub returns-then-are_digits-clause-number : goal.returns-then-are_digits-clause-number
returns-then-are_digits-clause-number c =
    (digits_read c.args.most c.args.bytes.now c.value_of.result (sym c.are_digits.ensures ∙ c.if-are_digits.true) c.requires c.value_of.ensures).0

pub returns-then-are_digits-clause-small : goal.returns-then-are_digits-clause-small
returns-then-are_digits-clause-small c =
    (digits_read c.args.most c.args.bytes.now c.value_of.result (sym c.are_digits.ensures ∙ c.if-are_digits.true) c.requires c.value_of.ensures).1
