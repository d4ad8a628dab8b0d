use Rattle.std.proofs.Common.{◌≡◌, ◌++◌, drop}
use Rattle.std.specs.List.{All, flat_map}
use Rattle.segment_file.specs.Bytes.{profile_bytes, profiles_bytes}
use Rattle.segment_file.specs.Objects.{IsProfile}
use Rattle.segment_file.proofs.encode.put_profiles.Given as goal

abbrev pub invariant-loop-profile : goal.invariant-loop-profile
invariant-loop-profile l = record {
  bytes : l.out.items ++ flat_map profile_bytes (drop l.profile-index l.profiles) ≡ l.fn.out.items ++ profiles_bytes l.profiles;
  rules : All IsProfile (drop l.profile-index l.profiles) → All IsProfile l.profiles;
}
