use Rattle.std.proofs.Common.{◌≡◌, List, subst}
use Rattle.metastore_index.specs.declared.entry.Entry.{Entry}
use Rattle.metastore_index.specs.Entries.{HasRun}
use Rattle.metastore_index.proofs.index.Index.run.Goals as goal

pub returns-clause-none : goal.returns-clause-none
returns-clause-none c none level has =
    let same : c.args.self.now.entries ≡ c.deref.result.now = cc in
    c.level_of_run.ensures.none none level (subst (λ (entries : List Entry). HasRun entries level c.args.lo c.args.hi) same has)
