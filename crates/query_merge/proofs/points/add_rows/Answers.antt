use Rattle.std.proofs.Common.{arith}
use Rattle.query_merge.proofs.SumLemmas.{within_rows}
use Rattle.query_merge.proofs.points.add_rows.Goals as goal

pub add_profile-requires-clause-room : goal.add_profile-requires-clause-room
add_profile-requires-clause-room c =
    let within = within_rows c.args.rows.now c.loop-row.row-index c.row-item.result (omega arith) c.row-item.is in
    let so_far = c.loop-row.invariant.total in let room = c.requires.room in omega arith
