use Rattle.std.proofs.Common.{subst, sym}
use Rattle.pprof_codec.specs.Read.{AreProfilesOf}
use Rattle.ingest.proofs.BodyLemmas.{are_profiles, pprof_stops}
use Rattle.ingest.proofs.body.read_body.Goals as goal

pub returns-in-Ok : goal.returns-in-Ok
returns-in-Ok c =
    let made = c.in_ok-stack_profile-in-Ok.ensures in
    are_profiles _ c.args.form c.args.body.now _ c.in-Folded.is (c.in-Ok.values, made.0, c.in-Ok.ensures.read, made.1, made.2)

pub returns-in-Ok-read_lines : goal.returns-in-Ok-read_lines
returns-in-Ok-read_lines c =
    let made = c.in_ok-stack_profile-in-Ok-read_lines.ensures in
    are_profiles _ c.args.form c.args.body.now _ c.in-Lines.is (c.in-Ok-read_lines.values, made.0, c.in-Ok-read_lines.ensures.read, made.1, made.2)

pub returns-in-Ok-read_pprof : goal.returns-in-Ok-read_pprof
returns-in-Ok-read_pprof c =
    are_profiles _ c.args.form c.args.body.now _ c.in-Pprof.is
    (c.base_of.result, c.base_of.ensures, subst (AreProfilesOf c.base_of.result c.args.body.now) (sym c.from_vec.ensures) c.in-Ok-read_pprof.ensures.read)

pub returns : goal.returns
returns c =
    pprof_stops c.args.form c.base_of.result c.args.body.now c.in-Err-read_pprof.refused c.map-in-Err-read_pprof.result c.in-Pprof.is c.base_of.ensures
    c.in-Err-read_pprof.ensures.read c.map-in-Err-read_pprof.ensures
