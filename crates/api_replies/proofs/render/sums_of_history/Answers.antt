use Rattle.std.proofs.Common.{◌≡◌, ◌∙◌, [], sym, arith, drop}
use Rattle.push_history.proofs.HistoryLemmas.{tenant_total-within}
use Rattle.std.proofs.lemmas.List.{drop_all}
use Rattle.api_replies.proofs.RenderingLemmas.{sums_are}
use Rattle.api_replies.proofs.render.sums_of_history.Goals as goal

pub add_profiles-requires : goal.add_profiles-requires
add_profiles-requires c =
    let own = rw c.loop-push.invariant.same at (sym c.eq.ensures ∙ c.if-eq.true) in
    let within = tenant_total-within c.args.history.now c.args.ask.now.part.tenant c.loop-push.push-index c.push-item.result (omega arith) c.push-item.is own in
    let so_far = c.loop-push.invariant.total in let all = c.requires in
    rw c.as_slice.ensures.value (omega arith)

pub returns-clause-ok : goal.returns-clause-ok
returns-clause-ok c =
    let history = c.args.history.now in
    let all : drop c.loop-push.push-index history ≡ [] = drop_all c.loop-push.push-index history c.loop-push-test.false in
    (rw all at c.loop-push.invariant.sums) ∙ sym (sums_are history c.args.ask.now)
