use Rattle.std.proofs.Common.{◌+◌, ◌<◌}
use Rattle.profile_model.specs.Limits.{total_bound}
use Rattle.merge_times.proofs.answers.series.Given as goal

abbrev pub invariant-loop-part : goal.invariant-loop-part
invariant-loop-part l = (l.points.held.total + l.room < total_bound)
