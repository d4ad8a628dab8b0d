use Rattle.std.proofs.Common.{ℕ, ◌<◌}
use Rattle.metastore_index.specs.Entries.{HasRun}
use Rattle.metastore_index.proofs.runs.level_of_run.Given as goal

abbrev pub invariant-loop-level : goal.invariant-loop-level
invariant-loop-level l = (level : ℕ) → level < l.level → HasRun l.entries level l.lo l.hi → ⊥
