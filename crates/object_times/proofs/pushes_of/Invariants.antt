use Rattle.std.proofs.Common.{◌≡◌, ◌≤◌, length}
use Rattle.std.specs.List.{All}
use Rattle.profile_model.specs.Limits.{most_weight}
use Rattle.profile_model.specs.Weights.{push_weight}
use Rattle.object_times.proofs.pushes_of.Given as goal

abbrev pub invariant-loop : goal.invariant-loop
invariant-loop l = (length l.pushes.items ≡ l.counter) × All (λ push. push_weight push ≤ most_weight) l.pushes.items
