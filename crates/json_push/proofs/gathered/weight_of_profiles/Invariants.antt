use Rattle.std.proofs.Common.{◌≡◌, ◌-◌, ◌^◌, min, take, sum_by}
use Rattle.profile_model.specs.Weights.{profile_weight}
use Rattle.json_push.proofs.gathered.weight_of_profiles.Given as goal

abbrev pub invariant-loop-profile : goal.invariant-loop-profile
invariant-loop-profile l = l.weight ≡ min (sum_by profile_weight (take l.profile-index l.profiles)) (2 ^ 64 - 1)
