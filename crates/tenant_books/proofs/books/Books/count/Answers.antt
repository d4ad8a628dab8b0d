use Rattle.std.proofs.Common.{◌+◌, ◌^◌, ◌<◌, ◌++◌, List, length, take, arith, sym, ◌∙◌, subst}
use Rattle.std.proofs.lemmas.Bool.{true≢false}
use Rattle.std.proofs.lemmas.List.{append-nil}
use Rattle.profile_model.specs.declared.push.Push.{Push}
use Rattle.push_history.specs.History.{HasBoundedTotals}
use Rattle.push_history.proofs.HistoryLemmas.{bounded-push}
use Rattle.tenant_books.specs.Books.{AreBooksOf}
use Rattle.tenant_books.proofs.BookLemmas.{books-alike}
use Rattle.tenant_books.proofs.HistoryLemmas.{bounded-behind, next-behind, short-behind, total-own}
use Rattle.tenant_books.proofs.books.Books.count.Goals as goal

pub loop-push-init : goal.loop-push-init
loop-push-init c = record {
  books = λ history are bounded short. subst (AreBooksOf c.room.new.self) (sym (append-nil history)) (books-alike c.room.new.self c.args.self.now history c.room.ensures.stands are);
  bounded = λ history are bounded short. subst HasBoundedTotals (sym (append-nil history)) bounded;
  knows = c.in_ok-room.ensures.knows;
}

pub returns-then-not-has_room_for-clause-passed : goal.returns-then-not-has_room_for-clause-passed
returns-then-not-has_room_for-clause-passed c = λ history are bounded short all.
    let next = next-behind history c.args.pushes.now c.loop-push.push-index c.push-item.result (omega arith) c.push-item.is in
    let stands = (c.loop-push.invariant.books history are bounded short).total c.push-item.result.tenant in
    let below = subst HasBoundedTotals (sym next) (bounded-behind history c.args.pushes.now (c.loop-push.push-index + 1) all) c.push-item.result.tenant in
    let own = total-own (history ++ take c.loop-push.push-index c.args.pushes.now) c.push-item.result in
    true≢false (sym (c.has_room_for.ensures.1 (omega arith)) ∙ c.if-not-has_room_for.true)

pub loop-push-preserved : goal.loop-push-preserved
loop-push-preserved c = record {
  books = λ history are bounded short.
      let next = next-behind history c.args.pushes.now c.loop-push.push-index c.push-item.result (omega arith) c.push-item.is in
      let stands = (c.loop-push.invariant.books history are bounded short).total c.push-item.result.tenant in
      let room = c.has_room_for.ensures.0 c.if-not-has_room_for.false in
      subst (AreBooksOf c.add.new.self) next
      (c.add.ensures.books _ (c.loop-push.invariant.books history are bounded short)
      (bounded-push _ c.push-item.result (c.loop-push.invariant.bounded history are bounded short) (omega arith))
      (subst (λ (all : List Push). length all < 2 ^ 63) (sym next) (short-behind history c.args.pushes.now (c.loop-push.push-index + 1) short)));
  bounded = λ history are bounded short.
      let next = next-behind history c.args.pushes.now c.loop-push.push-index c.push-item.result (omega arith) c.push-item.is in
      let stands = (c.loop-push.invariant.books history are bounded short).total c.push-item.result.tenant in
      let room = c.has_room_for.ensures.0 c.if-not-has_room_for.false in
      subst HasBoundedTotals next (bounded-push _ c.push-item.result (c.loop-push.invariant.bounded history are bounded short) (omega arith));
  knows = λ k d short. c.add.ensures.still _ (c.loop-push.invariant.knows k d short);
}
