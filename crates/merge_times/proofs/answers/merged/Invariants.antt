use Rattle.std.proofs.Common.{◌+◌, ◌<◌}
use Rattle.profile_model.specs.Limits.{total_bound}
use Rattle.profile_model.specs.Sums.{total_of}
use Rattle.merge_times.proofs.answers.merged.Given as goal

abbrev pub invariant-loop-part : goal.invariant-loop-part
invariant-loop-part l = (total_of l.merge.sums + l.room < total_bound)
