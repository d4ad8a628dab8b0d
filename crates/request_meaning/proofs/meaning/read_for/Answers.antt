use Rattle.std.proofs.lemmas.Result.{err_from_is_err_and}
use Rattle.request_meaning.proofs.meaning.read_for.Goals as goal

pub returns-in_err-ask-in-Render : goal.returns-in_err-ask-in-Render
returns-in_err-ask-in-Render c =
    let p = err_from_is_err_and c.from_residual-in_err-ask-in-Render.result c.from_residual-in_err-ask-in-Render.ensures.1 in
    rw (p.1, p.2, c.in-Render.is)
    (rw (c.deref.ensures.value, c.in_ok-parameters-in-Render.ensures, c.query.ensures, c.moment.ensures) at c.in_err-ask-in-Render.ensures)
