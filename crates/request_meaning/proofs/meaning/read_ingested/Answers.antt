use Rattle.std.proofs.Common.{subst, sym}
use Rattle.request_meaning.specs.Meanings.{IsWriteFault}
use Rattle.request_meaning.proofs.MeaningLemmas.{told_so}
use Rattle.request_meaning.proofs.meaning.read_ingested.Goals as goal

pub returns-in-Ok : goal.returns-in-Ok
returns-in-Ok c = rw (c.deref.ensures.value, c.in_ok-parameters.ensures, c.query.ensures, c.body.ensures, c.moment.ensures) at c.in-Ok.ensures

pub returns : goal.returns
returns c =
    told_so c.in-Err.refused c.map.result c.map.ensures (λ fault refusal is wrong. subst (IsWriteFault c.args.request.now) (sym is) wrong)
    (rw (c.deref.ensures.value, c.in_ok-parameters.ensures, c.query.ensures, c.body.ensures, c.moment.ensures) at c.in-Err.ensures)
