use Rattle.std.proofs.Common.{◌≡◌, leb, true, false, rules, tests}
use Rattle.std.proofs.lemmas.List.Sorted.{IsPartitionPoint-from_clause}
use Rattle.std.specs.List.Sorted.{IsPartitionPoint}
use Rattle.metastore_index.specs.declared.entry.Entry.{Entry}
use Rattle.metastore_index.proofs.PartLemmas.{ends_part}
use Rattle.metastore_index.proofs.runs.count_before.Goals as goal
use Rattle.metastore_index.proofs.runs.count_before.Goals.{After-partition_point}
use borrow.Author.Tests.{leb-true, leb-false}

point : (c : After-partition_point) → IsPartitionPoint (λ (entry : Entry). leb entry.hi c.args.at ≡ true) (λ entry. leb entry.hi c.args.at ≡ false) c.args.entries.now c.partition_point.result
point c = IsPartitionPoint-from_clause (λ (entry : Entry). leb entry.hi c.args.at) c.args.entries.now _ c.partition_point.ensures.partitioned
    (ends_part c.args.entries.now c.args.at c.requires.divide) (λ x r q k. search (rules, tests))

pub returns-clause-before : goal.returns-clause-before
returns-clause-before c k d from below = leb-true _ _ ((point c).0 k d from below)

pub returns-clause-others : goal.returns-clause-others
returns-clause-others c k d from below = leb-false _ _ ((point c).1 k d from below)
