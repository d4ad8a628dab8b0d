use Rattle.std.proofs.Common.{ltb, rules, tests}
use Rattle.std.proofs.lemmas.List.Sorted.{IsPartitionPoint-from_clause}
use Rattle.std.specs.List.Sorted.{IsPartitionPoint}
use Rattle.metastore_index.specs.declared.entry.Entry.{Entry}
use Rattle.metastore_index.proofs.PartLemmas.{levels_part}
use Rattle.metastore_index.proofs.runs.count_above.Goals as goal
use Rattle.metastore_index.proofs.runs.count_above.Goals.{After-partition_point}
use borrow.Author.Tests.{ltb-true, ltb-false}
use Rattle.std.proofs.Common.{◌≡◌, true, false}

point : (c : After-partition_point) → IsPartitionPoint (λ (entry : Entry). ltb c.args.level entry.level ≡ true) (λ entry. ltb c.args.level entry.level ≡ false) c.args.entries.now c.partition_point.result
point c = IsPartitionPoint-from_clause (λ (entry : Entry). ltb c.args.level entry.level) c.args.entries.now _ c.partition_point.ensures.partitioned
    (levels_part c.args.entries.now c.args.level c.requires.levels) (λ x r q k. search (rules, tests))

pub returns-clause-above : goal.returns-clause-above
returns-clause-above c k d from below = ltb-true _ _ ((point c).0 k d from below)

pub returns-clause-others : goal.returns-clause-others
returns-clause-others c k d from below = ltb-false _ _ ((point c).1 k d from below)
