use Rattle.std.proofs.Common.{inr, arith}
use Rattle.metastore_index.proofs.changes.take_in.Goals as goal

pub returns-in_ok-stand_in-clause-ok : goal.returns-in_ok-stand_in-clause-ok
returns-in_ok-stand_in-clause-ok c = let p = c.in_ok-stand_in.ensures.ok in (inr (omega arith, p.0), p.1)
