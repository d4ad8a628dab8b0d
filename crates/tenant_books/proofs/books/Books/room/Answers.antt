use Rattle.std.proofs.Common.{◌∙◌, arith}
use Rattle.tenant_books.proofs.BookLemmas.{known-next}
use Rattle.tenant_books.proofs.books.Books.room.Goals as goal

pub loop-push-preserved : goal.loop-push-preserved
loop-push-preserved c = record {
  stands = λ tenant. c.write_down.ensures.stands tenant ∙ c.loop-push.invariant.stands tenant;
  knows =
      known-next c.write_down.new.self c.args.pushes.now c.loop-push.push-index c.push-item.result (omega arith) c.push-item.is c.in_ok-write_down.ensures.knows
      (λ k d short. c.write_down.ensures.still _ (c.loop-push.invariant.knows k d short));
  still = λ tenant known. c.write_down.ensures.still tenant (c.loop-push.invariant.still tenant known);
}

pub returns-clause-knows : goal.returns-clause-knows
returns-clause-knows c = λ k d short. c.loop-push.invariant.knows k d (omega arith)
