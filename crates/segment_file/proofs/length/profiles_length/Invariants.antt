use Rattle.std.proofs.Common.{◌≡◌, ◌+◌, ◌-◌, ◌^◌, ◌≤◌, drop, length, min}
use Rattle.std.specs.List.{flat_map}
use Rattle.segment_file.specs.Bytes.{profile_bytes, profiles_bytes}
use Rattle.segment_file.proofs.length.profiles_length.Given as goal

abbrev pub invariant-loop-profile : goal.invariant-loop-profile
invariant-loop-profile l = record {
  fits : l.length ≤ 2 ^ 64 - 1;
  left : min (l.length + length (flat_map profile_bytes (drop l.profile-index l.profiles))) (2 ^ 64 - 1) ≡ min (length (profiles_bytes l.profiles)) (2 ^ 64 - 1);
}
