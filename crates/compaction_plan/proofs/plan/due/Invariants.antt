use Rattle.std.proofs.Common.{ℕ, ◌<◌}
use Rattle.compaction_plan.specs.Jobs.{HasJob}
use Rattle.compaction_plan.proofs.plan.due.Given as goal

abbrev pub invariant-loop-level : goal.invariant-loop-level
invariant-loop-level l = (level : ℕ) → level < l.level → HasJob l.index.entries level → ⊥
