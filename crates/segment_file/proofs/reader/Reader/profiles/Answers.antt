use Rattle.std.proofs.Common.{map, arith}
use Rattle.std.proofs.lemmas.List.{length-map}
use Rattle.segment_file.specs.Objects.{profile_said}
use Rattle.segment_file.specs.ReadFields.{alone, count_field, each_profile, few_profiles, list_fields}
use Rattle.segment_file.specs.Reading.{Begins, BeginsCounted, Stopped}
use Rattle.segment_file.proofs.ReadAnswers.{exit}
use Rattle.segment_file.proofs.ReadProfiles.{few_from, profiles_at_count, profiles_stopped, profiles_taken}
use Rattle.segment_file.proofs.reader.Reader.profiles.Goals as goal

pub returns-in_err-count : goal.returns-in_err-count
returns-in_err-count c =
    let from = c.args.self.now.cursor in
    exit c.from_residual.result c.in_err-count.field-0.0 _ (Stopped (Begins (alone (count_field few_profiles))) from) (Stopped (Begins (list_fields few_profiles each_profile)) from)
    c.from_residual.ensures.1 (profiles_at_count from) c.in_err-count.ensures

pub returns-in_err-profiles : goal.returns-in_err-profiles
returns-in_err-profiles c =
    let from = c.args.self.now.cursor in
    let middle = c.profiles_count.new.self.cursor in
    exit c.from_residual-in_err-profiles.result c.in_err-profiles.field-0.0 _ (Stopped (BeginsCounted c.in_ok-count.count each_profile) middle)
    (Stopped (Begins (list_fields few_profiles each_profile)) from) c.from_residual-in_err-profiles.ensures.1
    (λ fault s. profiles_stopped c.in_ok-count.count from middle fault c.in_ok-count.ensures s) c.in_err-profiles.ensures

pub from_vec-requires : goal.from_vec-requires
from_vec-requires c =
    let few = few_from c.in_ok-count.count c.args.self.now.cursor c.profiles_count.new.self.cursor c.in_ok-count.ensures in
    omega (arith, few, c.in_ok-profiles.ensures.0, length-map c.in_ok-profiles.profiles.items profile_said)

pub returns : goal.returns
returns c =
    rw c.from_vec.ensures
    (profiles_taken c.in_ok-count.count (map profile_said c.in_ok-profiles.profiles.items) c.args.self.now.cursor c.profiles_count.new.self.cursor c.counted_profiles.new.self.cursor
    c.in_ok-count.ensures c.in_ok-profiles.ensures)
