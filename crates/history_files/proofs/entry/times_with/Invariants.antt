use Rattle.std.proofs.Common.{◌≡◌, drop, map, min, max}
use Rattle.std.specs.List.{fold}
use Rattle.profile_model.specs.declared.profile.Profile.{Profile}
use Rattle.history_files.proofs.entry.times_with.Given as goal

abbrev pub invariant-loop-profile : goal.invariant-loop-profile
invariant-loop-profile l = record {
  least : fold min l.least (map (λ (profile : Profile). profile.time_ms) (drop l.profile-index l.profiles)) ≡ fold min l.fn.times.0 (map (λ (profile : Profile). profile.time_ms) l.profiles);
  greatest : fold max l.greatest (map (λ (profile : Profile). profile.time_ms) (drop l.profile-index l.profiles)) ≡ fold max l.fn.times.1 (map (λ (profile : Profile). profile.time_ms) l.profiles);
}
