use Rattle.std.proofs.Common.{drop}
use Rattle.std.specs.List.{All}
use Rattle.segment_file.specs.Objects.{IsProfile}
use Rattle.segment_file.proofs.rules.look_at_profiles.Given as goal

abbrev pub invariant-loop-profile : goal.invariant-loop-profile
invariant-loop-profile l = record { rules : All IsProfile (drop l.profile-index l.profiles) → All IsProfile l.profiles }
