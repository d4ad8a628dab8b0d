use Rattle.std.proofs.Common.{ap, arith}
use Rattle.profile_model.specs.Sums.{total_of}
use Rattle.query_merge.proofs.SumLemmas.{within_rows}
use Rattle.query_merge.proofs.merge.samples_of_part.Goals as goal

pub put-requires-clause-room : goal.put-requires-clause-room
put-requires-clause-room c =
    let within = within_rows c.args.rows.now c.loop-row.row-index c.row-item.result (omega arith) c.row-item.is in
    let same = ap total_of c.in_ok-samples_of.ensures.0 in
    let so_far = c.loop-row.invariant.total in let all = c.requires in omega arith
