use Rattle.std.proofs.Common.{arith}
use Rattle.selector.proofs.BudgetLemmas.{next_within}
use Rattle.selector.proofs.budget.left_of.Goals as goal

pub returns-then-length-left : goal.returns-then-length-left
returns-then-length-left c =
    let within = next_within c.args.written.now c.loop-matcher.matcher-index _ c.matcher-item.result (omega arith) c.matcher-item.is in
    omega (arith, within, c.loop-matcher.invariant, c.if-length-left.true, c.pattern_len-length.ensures)
