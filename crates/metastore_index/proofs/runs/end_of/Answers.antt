use Rattle.std.proofs.Common.{sym}
use Rattle.metastore_index.proofs.DivideLemmas.{end_of_last, end_of_none}
use Rattle.metastore_index.proofs.runs.end_of.Goals as goal

pub returns-in-Some : goal.returns-in-Some
returns-in-Some c = sym (end_of_last c.args.entries.now c.in-Some.entry.now c.in-Some.ensures.item.3.0 (sym c.in-Some.ensures.item.1))

pub returns-in-None : goal.returns-in-None
returns-in-None c = end_of_none c.args.entries.now c.in-None.ensures.item.3
