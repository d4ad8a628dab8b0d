use Rattle.std.proofs.Common.{rules, arith}
use Rattle.metastore_index.proofs.ChangeLemmas.{stands_made}
use Rattle.metastore_index.proofs.changes.stand_in.Goals as goal

pub returns-clause-ok : goal.returns-clause-ok
returns-clause-ok c =
    let found = rw c.deref.ensures.value at c.in-Some.ensures.found in
    stands_made c.args.entries.now.items c.args.entry _ c.in-Some.start c.in-Some.end _ c.requires.level found.0 found.1 found.2 (omega arith)
    (search rules)
