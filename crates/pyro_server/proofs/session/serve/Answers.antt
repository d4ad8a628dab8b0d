use Rattle.std.proofs.Common.{◌≡◌, ◌+◌, ◌∙◌, refl, ap, subst, arith, lit<, ℕ}
use Rattle.http_session.specs.Limits.{most_requests}
use Rattle.http_session.specs.Progress.{Progress}
use Rattle.http_session.specs.Takes.{IsWhole}
use Rattle.link_trait.proofs.GoesLemmas.{goes_then, goes_nowhere}
use Rattle.request_meaning.specs.Facts.{facts_of}
use Rattle.pyro_server.specs.Steps.{SoFar}
use Rattle.pyro_server.proofs.Sessions.{at_first, one_more, over, closed, last_closes}
use Rattle.pyro_server.specs.declared.ending.Ending.TheVariants.{Closed, LastRequest}
use Rattle.pyro_server.proofs.session.serve.Goals as goal

pub loop-number-init : goal.loop-number-init
loop-number-init g c = record {
  bounded = λ tenant. rw c.requires.none (lit< tt);
  reading = ap (λ (w : Progress). w.ended) c.new-reader.ensures;
  number = ap (λ (w : Progress). w.given + 1) c.new-reader.ensures;
  served = goes_nowhere (SoFar (facts_of c.args.config.now) c.new-reader.result c.args.history.now.items) _
      (at_first (facts_of c.args.config.now) c.new-reader.result c.args.history.now.items (ap (λ (w : Progress). w.held) c.new-reader.ensures)
      (ap (λ (w : Progress). w.given) c.new-reader.ensures) c.requires.none);
  opened = c.requires.open;
  quiet = refl;
}

pub loop-number-preserved : goal.loop-number-preserved
loop-number-preserved g c =
    let on = c.in-Replied-false.ensures.continues tt in
    let counted = on.1 in
    let before = c.loop-number.invariant.number in
    let low = c.loop-number-test.true in
    let number : c.serve_next.new.reader.given ≡ c.loop-number.reader.given + 1 = omega arith in
    record {
      bounded = c.in-Replied-false.ensures.bounded;
      reading = on.0;
      number = omega arith;
      served = goes_then _ _ _ _ _ _
          (λ start between now. one_more (facts_of c.args.config.now) c.loop-number.reader c.serve_next.new.reader c.loop-number.history.items c.serve_next.new.history.items start between now number)
          c.loop-number.invariant.served (rw c.in-Replied-false.close-test at c.in-Replied-false.ensures.served);
      opened = c.in-Replied-false.ensures.open (λ is. cc);
      quiet = c.in-Replied-false.ensures.quiet (λ is. cc) ∙ c.loop-number.invariant.quiet;
    }

pub returns-in-Replied-true-clause-in_turn : goal.returns-in-Replied-true-clause-in_turn
returns-in-Replied-true-clause-in_turn g c =
    let on = c.in-Replied-true.ensures.continues tt in
    let counted = on.1 in
    let before = c.loop-number.invariant.number in
    let low = c.loop-number-test.true in
    let number : c.serve_next.new.reader.given ≡ c.loop-number.reader.given + 1 = omega arith in
    goes_then _ _ _ _ _ _
    (λ start between now far step. closed (facts_of c.args.config.now) c.loop-number.reader c.serve_next.new.reader c.loop-number.history.items c.serve_next.new.history.items start between now
    c.in-Replied-true.close Closed number (λ requests rest shut long. (shut, λ all. omega arith)) (λ moment. refl) far step
    (λ asked moment bytes rest whole same. same ∙ c.in-Replied-true.close-test))
    c.loop-number.invariant.served c.in-Replied-true.ensures.served

pub returns-in-Over-clause-in_turn : goal.returns-in-Over-clause-in_turn
returns-in-Over-clause-in_turn g c =
    goes_then _ _ _ _ _ _
    (λ start between now. over (facts_of c.args.config.now) c.loop-number.reader c.serve_next.new.reader c.loop-number.history.items c.serve_next.new.history.items start between now c.in-Over.ending)
    c.loop-number.invariant.served c.in-Over.ensures.served

pub returns-in-Replied-clause-in_turn : goal.returns-in-Replied-clause-in_turn
returns-in-Replied-clause-in_turn g c =
    let on = c.in-Replied.ensures.continues tt in
    let counted = on.1 in
    let before = c.loop-number.invariant.number in
    let high = c.loop-number-test.false in
    let low = c.loop-number.auto.number-end in
    let last : c.loop-number.reader.given + 1 ≡ most_requests = omega arith in
    let number : c.serve_next-2.new.reader.given ≡ c.loop-number.reader.given + 1 = omega arith in
    goes_then _ _ _ _ _ _
    (λ start between now far step. closed (facts_of c.args.config.now) c.loop-number.reader c.serve_next-2.new.reader c.loop-number.history.items c.serve_next-2.new.history.items start between now
    c.in-Replied.close LastRequest number (λ requests rest shut long. (shut, long ∙ last)) (λ moment. refl) far step
    (λ asked moment bytes rest whole same. last_closes asked moment bytes rest (let P : ℕ → Type 0 = λ n. IsWhole n moment bytes asked rest in subst P last whole)))
    c.loop-number.invariant.served c.in-Replied.ensures.served

pub returns-clause-in_turn : goal.returns-clause-in_turn
returns-clause-in_turn g c =
    goes_then _ _ _ _ _ _
    (λ start between now. over (facts_of c.args.config.now) c.loop-number.reader c.serve_next-2.new.reader c.loop-number.history.items c.serve_next-2.new.history.items start between now c.in-Over-serve_next.ending)
    c.loop-number.invariant.served c.in-Over-serve_next.ensures.served
