use Rattle.std.proofs.Common.{inl, inr, refl, ⊎_elim}
use Rattle.request_meaning.specs.Facts.{facts_of}
use Rattle.pyro_server.proofs.Serving.{settled_exchange}
use Rattle.pyro_server.proofs.session.reply_to.Goals as goal

pub returns-in-Reply-clause-exchange : goal.returns-in-Reply-clause-exchange
returns-in-Reply-clause-exchange c =
    ⊎_elim (λ is. inl (inl (is, refl))) (λ excused. inr (excused, refl)) (rw c.deref.ensures.value at c.in-Reply.ensures.answer)

pub returns-in-Push-clause-exchange : goal.returns-in-Push-clause-exchange
returns-in-Push-clause-exchange c =
    settled_exchange (facts_of c.args.config.now) c.args.request.now _ _ _ c.in-Push.form c.in-Push.ask c.settle-verdict.result c.in-Push.ensures.answer
    c.settle-verdict.ensures.settled (rw (c.moment.ensures, c.close.ensures) at c.acknowledge.ensures)
