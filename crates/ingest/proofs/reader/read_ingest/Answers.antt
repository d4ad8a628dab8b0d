use Rattle.std.proofs.Common.{arith, refl}
use Rattle.std.proofs.lemmas.Result.{err_from_is_err_and}
use Rattle.faults.proofs.AnswerLemmas.{IfFault-weaker}
use Rattle.query_parameters.specs.Parameters.{pairs_of}
use Rattle.ingest.proofs.IngestLemmas.{body_stops}
use Rattle.ingest.proofs.reader.read_ingest.Goals as goal

pub returns-in_err-profiles : goal.returns-in_err-profiles
returns-in_err-profiles c =
    let p = err_from_is_err_and c.from_residual-in_err-profiles.result c.from_residual-in_err-profiles.ensures.1 in
    rw (p.1, p.2)
    (IfFault-weaker c.in_err-profiles.field-0.0
    (λ fault stops. body_stops (pairs_of c.args.parameters.now) c.args.body.now c.args.moment_ms c.in_ok-form.form fault c.in_ok-form.ensures stops)
    c.in_err-profiles.ensures)

pub returns-then-weight-gt-MAX_WEIGHT : goal.returns-then-weight-gt-MAX_WEIGHT
returns-then-weight-gt-MAX_WEIGHT c =
    (c.in_ok-form.form, c.in_ok-profiles.profiles, c.in_ok-form.ensures, c.in_ok-profiles.ensures, omega (arith, c.weight.ensures, c.if-weight-gt-MAX_WEIGHT.true))

pub returns : goal.returns
returns c =
    (refl, (c.in_ok-form.form, c.in_ok-form.ensures, c.in_ok-profiles.ensures, omega (arith, c.weight.ensures, c.if-weight-gt-MAX_WEIGHT.false)))
