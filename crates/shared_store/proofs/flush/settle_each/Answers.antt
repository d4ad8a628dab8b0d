use Rattle.std.proofs.Common.{◌++◌, ◌∷◌, [], List, Result, length, arith, sym, subst, ap, ◌∙◌}
use Rattle.std.specs.List.{All}
use Rattle.std.proofs.lemmas.List.{length_push}
use Rattle.history_files.proofs.KeepLemmas.{rose_from}
use Rattle.tenant_books.specs.declared.verdict.Verdict.{Verdict}
use Rattle.shared_store.specs.declared.refusal.Refusal.{Refusal}
use Rattle.shared_store.specs.Flushes.{AreAnswers, HasFailed}
use Rattle.shared_store.proofs.FlushLemmas.{answers_more, failed_later, failed_more, is_answer}
use Rattle.shared_store.proofs.flush.settle_each.Goals as goal

pub loop-ask-preserved : goal.loop-ask-preserved
loop-ask-preserved g c =
    let run = g.J.Names.run in
    let before = (g.D.Disk.view c.args.store.now.disk).faults in
    let between = (g.D.Disk.view c.loop-ask.store.disk).faults in
    let now = (g.D.Disk.view c.settle_one.new.store.disk).faults in
    let it = c.settle_one.ensures in
    let was = c.loop-ask.invariant in
    let one = c.settle_one.result in
    let told = c.loop-ask.told.items in
    let list = c.loop-ask.spine.list in
    let new = c.settle_one.new.spine.list in
    let ask = c.in-Some.ask in
    let flight = c.loop-ask.store.flight in
    let items = c.push_reserved.ensures.items in
    record {
      tied = it.tied;
      numbers = (it.numbers.0 ∙ was.numbers.0, it.numbers.1 ∙ was.numbers.1);
      at_end = λ t. it.at_end t (was.at_end t);
      none = λ t. it.none t (was.at_end t) ∙ was.none t;
      long = omega (arith, ap length items, length_push told one, length_push c.loop-ask.yielded ask, was.long);
      capacity = c.push_reserved.ensures.capacity ∙ was.capacity;
      answers = subst (λ (l : List (Result Verdict Refusal)). AreAnswers run c.args.spine.now.list (c.loop-ask.yielded ++ ask ∷ []) l new) (sym items)
          (answers_more run c.args.spine.now.list list new c.loop-ask.yielded told flight ask one was.answers (λ t. (was.at_end t).lands)
          (is_answer run flight list new ask one it.settled it.mends it.full));
      failed = subst (λ (l : List (Result Verdict Refusal)). All (HasFailed before now) l) (sym items)
          (failed_more before now told one (failed_later before between now told it.goes_on.faults was.failed)
          (λ count is. let failed = it.failed count is in (rose_from before between count was.goes_on.faults failed.1, omega (arith, failed.0))));
      goes_on = record { honest = it.goes_on.honest ∙ was.goes_on.honest; faults = omega (arith, it.goes_on.faults, was.goes_on.faults) };
    }
