use Rattle.std.proofs.Common.{◌≡◌, ◌∙◌, ap, arith}
use Rattle.push_history.specs.declared.kept.Standing.{Standing}
use Rattle.push_history.specs.History.{front_of}
use Rattle.tenant_books.proofs.HistoryLemmas.{front-append, front-within}
use Rattle.tenant_books.proofs.judging.standing_after.Goals as goal

pub returns-clause-front : goal.returns-clause-front
returns-clause-front c = λ history are short.
    let before : c.standing-before.result.front ≡ front_of history c.args.tenant.now = ap (λ (standing : Standing). standing.front) c.standing-before.ensures ∙ are.front c.args.tenant.now in
    let since = c.standing-since.ensures.front in
    let some = front-within history c.args.tenant.now in
    let more = front-within c.args.kept.now c.args.tenant.now in
    let both = front-append history c.args.kept.now c.args.tenant.now in
    let sum = c.saturating_add.ensures in omega arith

pub returns-clause-few : goal.returns-clause-few
returns-clause-few c = λ history are short.
    let before : c.standing-before.result.front ≡ front_of history c.args.tenant.now = ap (λ (standing : Standing). standing.front) c.standing-before.ensures ∙ are.front c.args.tenant.now in
    let since = c.standing-since.ensures.front in
    let some = front-within history c.args.tenant.now in
    let more = front-within c.args.kept.now c.args.tenant.now in
    let sum = c.saturating_add.ensures in omega arith
