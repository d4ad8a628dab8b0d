use Rattle.std.proofs.Common.{map}
use Rattle.segment_file.specs.Files.{push_fields}
use Rattle.segment_file.specs.Objects.{profile_said}
use Rattle.segment_file.specs.ReadFields.{alone, each_profile, few_profiles, is_tenant, judged, list_fields}
use Rattle.segment_file.specs.Reading.{Begins, Stopped}
use Rattle.segment_file.proofs.ReadAnswers.{exit}
use Rattle.segment_file.proofs.ReadFiles.{push_at_profiles, push_at_tenant, push_taken}
use Rattle.segment_file.proofs.reader.Reader.push.Goals as goal

pub returns-in_err-tenant : goal.returns-in_err-tenant
returns-in_err-tenant c =
    let from = c.args.self.now.cursor in
    exit c.from_residual.result c.in_err-tenant.field-0.0 _ (Stopped (Begins (alone (judged is_tenant))) from) (Stopped (Begins push_fields) from) c.from_residual.ensures.1
    (push_at_tenant from) c.in_err-tenant.ensures

pub returns-in_err-profiles : goal.returns-in_err-profiles
returns-in_err-profiles c =
    let from = c.args.self.now.cursor in
    let middle = c.tenant.new.self.cursor in
    exit c.from_residual-in_err-profiles.result c.in_err-profiles.field-0.0 _ (Stopped (Begins (list_fields few_profiles each_profile)) middle) (Stopped (Begins push_fields) from)
    c.from_residual-in_err-profiles.ensures.1 (λ fault s. push_at_profiles c.in_ok-tenant.tenant from middle fault c.in_ok-tenant.ensures s) c.in_err-profiles.ensures

pub returns : goal.returns
returns c =
    push_taken c.in_ok-tenant.tenant (map profile_said c.in_ok-profiles.profiles) c.args.self.now.cursor c.tenant.new.self.cursor c.profiles.new.self.cursor c.in_ok-tenant.ensures
    c.in_ok-profiles.ensures
