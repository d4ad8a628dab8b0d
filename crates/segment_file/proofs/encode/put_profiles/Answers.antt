use Rattle.std.proofs.Common.{arith}
use Rattle.segment_file.specs.Bytes.{profile_bytes}
use Rattle.segment_file.specs.Objects.{IsProfile}
use Rattle.segment_file.proofs.EncodeLemmas.{known_next, written_next}
use Rattle.segment_file.proofs.encode.put_profiles.Goals as goal

pub loop-profile-preserved : goal.loop-profile-preserved
loop-profile-preserved c =
    let at = c.loop-profile.profile-index in
    let profiles = c.args.profiles.now in
    let profile = c.profile-item.result in
    record {
      bytes = written_next profile_bytes profiles at profile c.loop-profile.out.items c.put_profile.new.out.items _ (omega arith) c.profile-item.is c.loop-profile.invariant.bytes c.in_ok-put_profile.ensures.bytes;
      rules = known_next IsProfile profiles at profile (omega arith) c.profile-item.is c.in_ok-put_profile.ensures.rules c.loop-profile.invariant.rules;
    }
