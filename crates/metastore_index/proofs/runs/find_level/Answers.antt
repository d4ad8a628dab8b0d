use Rattle.metastore_index.proofs.LevelLemmas.{level_between, level_ordered}
use Rattle.metastore_index.proofs.runs.find_level.Goals as goal

pub returns-clause-order : goal.returns-clause-order
returns-clause-order c =
    let above = c.count_above.ensures in
    let down = c.count_down_to.ensures in
    level_ordered c.args.entries.now c.args.level c.count_above.result c.count_down_to.result above.within down.within above.above above.others down.above down.others

pub returns-clause-found : goal.returns-clause-found
returns-clause-found c =
    let above = c.count_above.ensures in
    let down = c.count_down_to.ensures in
    level_between c.args.entries.now c.args.level c.count_above.result c.count_down_to.result above.within down.within above.above above.others down.above down.others
