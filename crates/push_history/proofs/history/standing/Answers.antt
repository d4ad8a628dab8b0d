use Rattle.std.proofs.Common.{◌≡◌, ◌∙◌, true, sym, arith}
use Rattle.std.specs.Prelude.{nat_eq}
use Rattle.std.specs.Cmp.Lexicographic.{pointwise}
use Rattle.push_history.proofs.HistoryLemmas.{tenant_total-within}
use Rattle.push_history.proofs.history.standing.Goals as goal

pub overflow_add-total : goal.overflow_add-total
overflow_add-total c =
    let tenant = c.args.tenant.now in
    let here : pointwise nat_eq c.push-item.result.tenant tenant ≡ true = sym c.eq.ensures ∙ c.if-eq.true in
    let within = tenant_total-within c.args.history.now tenant c.loop-push.push-index c.push-item.result (omega arith) c.push-item.is here in
    let all = c.requires in let so_far = c.loop-push.invariant.summed in omega arith
