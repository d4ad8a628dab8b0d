use Rattle.std.proofs.Common.{◌++◌, arith}
use Rattle.std.proofs.lemmas.List.{length-append}
use Rattle.tenant_books.specs.Limits.{limit_of}
use Rattle.tenant_books.proofs.judging.verdict_after.Goals as goal

pub returns-clause-verdict : goal.returns-clause-verdict
returns-clause-verdict c = λ history are bounded end short.
    let long = length-append history c.args.kept.now in
    let place = c.saturating_add-place.ensures in
    c.verdict_of.ensures.verdict (limit_of c.args.limits.now) (history ++ c.args.kept.now)
    (c.standing_after-standing.ensures.front history are (omega arith)) (c.standing_after-standing.ensures.few history are (omega arith))
    (c.standing_after-standing.ensures.total history are bounded) (omega arith) c.of.ensures.limit
