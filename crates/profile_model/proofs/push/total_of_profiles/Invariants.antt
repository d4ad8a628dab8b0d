use Rattle.std.proofs.Common.{◌≡◌, ◌*◌, ◌≤◌, take}
use Rattle.profile_model.specs.Limits.{total_bound}
use Rattle.profile_model.specs.Pushes.{profiles_total}
use Rattle.profile_model.proofs.push.total_of_profiles.Given as goal

abbrev pub invariant-loop-profile : goal.invariant-loop-profile
invariant-loop-profile l = record {
  summed : l.total ≡ profiles_total (take l.profile-index l.profiles);
  bounded : l.total ≤ total_bound * l.profile-index;
}
