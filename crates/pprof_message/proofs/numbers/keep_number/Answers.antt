use Rattle.std.proofs.Common.{refl, sym, arith}
use Rattle.std.proofs.lemmas.List.{set_past}
use Rattle.pprof_message.proofs.numbers.keep_number.Goals as goal

pub returns-then-number-lt6-clause-kept : goal.returns-then-number-lt6-clause-kept
returns-then-number-lt6-clause-kept c = rw (← c.varint.ensures, c.in-Some.is, c.number-number.ensures) refl

pub returns-else-number-lt6-clause-kept : goal.returns-else-number-lt6-clause-kept
returns-else-number-lt6-clause-kept c =
    rw (← c.varint.ensures, c.in-Some.is, ← c.number-number.ensures) (sym (set_past c.args.numbers.now c.number-number.result c.in-Some.value (omega arith)))

pub returns-in_default-clause-kept : goal.returns-in_default-clause-kept
returns-in_default-clause-kept c = rw (← c.varint.ensures, c.in_default.is) refl
