use Rattle.std.proofs.Common.{leb, rules, tests}
use Rattle.std.proofs.lemmas.List.Sorted.{IsPartitionPoint-from_clause}
use Rattle.std.specs.List.Sorted.{IsPartitionPoint}
use Rattle.metastore_index.specs.declared.entry.Entry.{Entry}
use Rattle.metastore_index.proofs.PartLemmas.{lower_levels_part}
use Rattle.metastore_index.proofs.runs.count_down_to.Goals as goal
use Rattle.metastore_index.proofs.runs.count_down_to.Goals.{After-partition_point}
use borrow.Author.Tests.{leb-true, leb-false}
use Rattle.std.proofs.Common.{◌≡◌, true, false}

point : (c : After-partition_point) → IsPartitionPoint (λ (entry : Entry). leb c.args.level entry.level ≡ true) (λ entry. leb c.args.level entry.level ≡ false) c.args.entries.now c.partition_point.result
point c = IsPartitionPoint-from_clause (λ (entry : Entry). leb c.args.level entry.level) c.args.entries.now _ c.partition_point.ensures.partitioned
    (lower_levels_part c.args.entries.now c.args.level c.requires.levels) (λ x r q k. search (rules, tests))

pub returns-clause-above : goal.returns-clause-above
returns-clause-above c k d from below = leb-true _ _ ((point c).0 k d from below)

pub returns-clause-others : goal.returns-clause-others
returns-clause-others c k d from below = leb-false _ _ ((point c).1 k d from below)
