use Rattle.std.proofs.Common.{◌≡◌, ◌-◌, ◌^◌, min, take, sum_by}
use Rattle.profile_model.specs.Weights.{label_weight}
use Rattle.profile_model.proofs.weight.weight_of_labels.Given as goal

abbrev pub invariant-loop-name : goal.invariant-loop-name
invariant-loop-name l = l.weight ≡ min (sum_by label_weight (take l.name-index l.labels)) (2 ^ 64 - 1)
