use Rattle.std.proofs.Common.{◌+◌, ◌^◌, ◌<◌, List, length, arith, sym, subst}
use Rattle.profile_model.specs.declared.push.Push.{Push}
use Rattle.push_history.specs.History.{HasBoundedTotals}
use Rattle.tenant_books.specs.Books.{AreBooksOf}
use Rattle.tenant_books.proofs.HistoryLemmas.{bounded-behind, next-behind, short-behind}
use Rattle.tenant_books.proofs.books.Books.take.Goals as goal

pub loop-push-preserved : goal.loop-push-preserved
loop-push-preserved c = record {
  books = λ history are bounded short.
      let next = next-behind history c.args.pushes.now c.loop-push.push-index c.push-item.result (omega arith) c.push-item.is in
      subst (AreBooksOf c.add.new.self) next
      (c.add.ensures.books _ (c.loop-push.invariant.books history are bounded short)
      (subst HasBoundedTotals (sym next) (bounded-behind history c.args.pushes.now (c.loop-push.push-index + 1) bounded))
      (subst (λ (all : List Push). length all < 2 ^ 63) (sym next) (short-behind history c.args.pushes.now (c.loop-push.push-index + 1) short)));
  still = λ tenant known. c.add.ensures.still tenant (c.loop-push.invariant.still tenant known);
}
