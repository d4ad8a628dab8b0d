use Rattle.std.proofs.Common.{[], ◌∷◌, map, ap, ◌∙◌, arith}
use Rattle.std.proofs.lemmas.List.{map-append}
use Rattle.segment_file.specs.Files.{profile_fields}
use Rattle.segment_file.specs.Objects.{profile_said}
use Rattle.segment_file.specs.ReadFields.{each_profile}
use Rattle.segment_file.specs.Reading.{Begins, BeginsCounted, Stopped}
use Rattle.segment_file.proofs.ReadAnswers.{exit}
use Rattle.segment_file.proofs.ReadLemmas.{counted_more}
use Rattle.segment_file.proofs.ReadProfiles.{profiles_at}
use Rattle.segment_file.proofs.reader.Reader.counted_profiles.Goals as goal

pub returns-in_err-profile : goal.returns-in_err-profile
returns-in_err-profile c =
    let before = map profile_said c.loop.profiles.items in
    let from = c.args.self.now.cursor in
    let here = c.loop.self.cursor in
    exit c.from_residual.result c.in_err-profile.field-0.0 _ (Stopped (Begins profile_fields) here) (Stopped (BeginsCounted c.args.count each_profile) from)
    c.from_residual.ensures.1
    (λ fault s. profiles_at c.args.count before from here fault (omega (arith, c.loop.invariant.0, c.loop-test.true)) c.loop.invariant.1 s) c.in_err-profile.ensures

pub loop-preserved : goal.loop-preserved
loop-preserved c =
    counted_more each_profile (map profile_said c.loop.profiles.items) (map profile_said c.push.new.self.items) c.loop.counter c.args.self.now.cursor c.loop.self.cursor
    c.profile.new.self.cursor c.loop.invariant (
      profile_said c.in_ok-profile.profile,
      ap (map profile_said) c.in_ok-push.ensures.items ∙ map-append profile_said c.loop.profiles.items (c.in_ok-profile.profile ∷ []),
      c.in_ok-profile.ensures,
    )
