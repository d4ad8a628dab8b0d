use Rattle.std.proofs.Common.{◌≡◌, ◌+◌, ◌-◌, ◌^◌, ◌<◌, min, sum_by}
use Rattle.profile_model.specs.Sums.{Sample}
use Rattle.profile_model.specs.Weights.{stack_weight}
use Rattle.profile_model.proofs.weight.weight_of_values.Given as goal

-- what was weighed and what is left come to all
abbrev pub invariant-loop-stack : goal.invariant-loop-stack
invariant-loop-stack l = record {
  all : min (l.weight + sum_by (λ (sample : Sample). stack_weight sample.0) l.stack-iterator) (2 ^ 64 - 1)
      ≡ min (sum_by (λ (sample : Sample). stack_weight sample.0) l.values) (2 ^ 64 - 1);
  fits : l.weight < 2 ^ 64;
}
