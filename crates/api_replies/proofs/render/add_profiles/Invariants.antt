use Rattle.std.proofs.Common.{◌≡◌, ◌+◌, ◌≤◌, drop, take}
use Rattle.profile_model.specs.Sums.{total_of}
use Rattle.profile_model.specs.Pushes.{profiles_total}
use Rattle.api_replies.specs.Rendering.{wanted_samples, with_samples}
use Rattle.api_replies.proofs.render.add_profiles.Given as goal

abbrev pub invariant-loop-profile : goal.invariant-loop-profile
invariant-loop-profile l = record {
  same : l.ask ≡ l.fn.ask;
  sums : with_samples l.sums (wanted_samples l.fn.ask (drop l.profile-index l.profiles)) ≡ with_samples l.fn.sums (wanted_samples l.fn.ask l.profiles);
  total : total_of l.sums ≤ total_of l.fn.sums + profiles_total (take l.profile-index l.profiles);
}
