use Rattle.compaction_plan.proofs.EndLemmas.{merging_ends}
use Rattle.compaction_plan.proofs.laws.levels_without_a_job.Goals as goal

pub returns-clause-ends : goal.returns-clause-ends
returns-clause-ends c = merging_ends
