use Rattle.std.proofs.Common.{arith}
use Rattle.segment_file.specs.Objects.{IsProfile}
use Rattle.segment_file.proofs.EncodeLemmas.{known_all, known_next}
use Rattle.segment_file.proofs.rules.look_at_profiles.Goals as goal

pub loop-profile-preserved : goal.loop-profile-preserved
loop-profile-preserved c =
    record {
      rules = known_next IsProfile c.args.profiles.now c.loop-profile.profile-index c.profile-item.result (omega arith) c.profile-item.is c.look_at_profile.ensures c.loop-profile.invariant.rules;
    }

pub returns : goal.returns
returns c = known_all IsProfile c.args.profiles.now c.loop-profile.profile-index (omega arith) c.loop-profile.invariant.rules
