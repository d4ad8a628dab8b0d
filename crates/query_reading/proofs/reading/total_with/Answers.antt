use Rattle.std.proofs.Common.{arith}
use Rattle.query_merge.proofs.SumLemmas.{within_rows}
use Rattle.query_reading.proofs.reading.total_with.Goals as goal

pub returns-then-total-gt-MAX_TOTAL-clause-none : goal.returns-then-total-gt-MAX_TOTAL-clause-none
returns-then-total-gt-MAX_TOTAL-clause-none c _ =
    let within = within_rows c.args.rows.now c.loop-row.row-index c.row-item.result (omega arith) c.row-item.is in
    let so_far = c.loop-row.invariant.total in
    let next = c.total-total.ensures.total in
    let over = c.if-total-gt-MAX_TOTAL.true in
    omega arith
