use Rattle.std.proofs.Common.{◌+◌, ◌<◌, ◌^◌, arith}
use Rattle.push_history.specs.History.{tenant_total}
use Rattle.profile_model.specs.Pushes.{profiles_total}
use Rattle.push_history.proofs.HistoryLemmas.{bounded-push}
use Rattle.pyro_server.proofs.settle.settle.Goals as goal
use Rattle.pyro_server.proofs.settle.settle.Goals.{in-Ok, in-Err}

pub overflow_add-before : goal.overflow_add-before
overflow_add-before c =
    let bounded = c.requires c.args.ask.push.tenant in
    let kept = rw c.deref.ensures.value at c.standing-before.ensures.total in omega arith

pub overflow_add-result : goal.overflow_add-result
overflow_add-result c =
    let few = rw c.deref.ensures.value at c.standing-before.ensures.few in
    let same = c.deref.ensures.len in
    let grown = c.in-Ok.ensures.len in
    let small = c.push.new.self.small in
    let fits = c.push.new.self.ok in omega arith

pub returns-clause-bounded : goal.returns-clause-bounded
returns-clause-bounded c =
    let kept = rw c.deref.ensures.value at c.standing-before.ensures.total in
    let room : tenant_total c.args.history.now.items c.args.ask.push.tenant + profiles_total c.args.ask.push.profiles < 2 ^ 63 = omega arith in
    elim c.match-push.branch [
      | in-Ok w ↦ rw w.in-Ok.ensures.items (bounded-push c.args.history.now.items c.args.ask.push c.requires room)
      | in-Err w ↦ rw w.in-Err.ensures.items c.requires
    ]
