use Rattle.std.proofs.Common.{◌∙◌}
use Rattle.metastore_index.proofs.CoverLemmas.{copied_is, entry_covers, none_covers}
use Rattle.metastore_index.proofs.runs.cover.Goals as goal

pub returns-clause-entry : goal.returns-clause-entry
returns-clause-entry c =
    let n = c.count_before in
    entry_covers c.args.entries.now c.args.at n.result c.requires n.ensures.before n.ensures.others n.ensures.within c.copied.result
    (c.copied.ensures ∙ copied_is c.args.entries.now n.result c.get.result c.get.ensures.lookup.3)

pub returns-clause-none : goal.returns-clause-none
returns-clause-none c =
    let n = c.count_before in
    none_covers c.args.entries.now c.args.at n.result c.requires n.ensures.before n.ensures.others n.ensures.within c.copied.result
    (c.copied.ensures ∙ copied_is c.args.entries.now n.result c.get.result c.get.ensures.lookup.3)
