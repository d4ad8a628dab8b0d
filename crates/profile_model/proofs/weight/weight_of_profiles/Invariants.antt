use Rattle.std.proofs.Common.{◌≡◌, ◌-◌, ◌^◌, min, take}
use Rattle.profile_model.specs.Weights.{profiles_weight}
use Rattle.profile_model.proofs.weight.weight_of_profiles.Given as goal

abbrev pub invariant-loop-profile : goal.invariant-loop-profile
invariant-loop-profile l = l.weight ≡ min (profiles_weight (take l.profile-index l.profiles)) (2 ^ 64 - 1)
