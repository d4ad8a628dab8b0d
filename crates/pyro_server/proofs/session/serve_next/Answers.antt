use Rattle.std.proofs.Common.{◌≡◌, ◌+◌, refl, arith}
use Rattle.link_trait.proofs.GoesLemmas.{goes_then, goes_weaker}
use Rattle.request_meaning.specs.Facts.{facts_of}
use Rattle.pyro_server.proofs.Serving.{answered_step, ended_step, failed_step, refused_step, starved_step}
use Rattle.pyro_server.proofs.session.serve_next.Goals as goal

pub returns-in-Request-clause-served : goal.returns-in-Request-clause-served
returns-in-Request-clause-served g c =
    let reply = c.serve_request.ensures.exchange.0 in
    let room = c.requires.number in
    let counted = c.in-Request.ensures.ends.1 in
    let number : c.next_request.new.self.given ≡ c.args.reader.now.given + 1 = omega arith in
    goes_then _ _ _ _ _ _
    (λ before between now. answered_step (facts_of c.args.config.now) c.args.reader.now c.next_request.new.self _ _ c.in-Request.request reply c.serve_request.result before between now number c.serve_request.ensures.exchange.1)
    (c.in-Request.ensures.next c.requires.reading) c.serve_request.ensures.exchange.2

pub returns-in-End-clause-served : goal.returns-in-End-clause-served
returns-in-End-clause-served g c =
    goes_weaker _ _ _ _ (λ before now. ended_step (facts_of c.args.config.now) c.args.reader.now c.next_request.new.self _ _ before now refl) (c.in-End.ensures.next c.requires.reading)

pub returns-in-Bad-clause-served : goal.returns-in-Bad-clause-served
returns-in-Bad-clause-served g c =
    goes_then _ _ _ _ _ _
    (λ before between now. refused_step (facts_of c.args.config.now) c.args.reader.now c.next_request.new.self _ _ c.in-Bad.bad c.refuse.result before between now refl)
    (c.in-Bad.ensures.next c.requires.reading) c.refuse.ensures.gives

pub returns-in-LinkFault-clause-served : goal.returns-in-LinkFault-clause-served
returns-in-LinkFault-clause-served g c =
    goes_weaker _ _ _ _ (λ before now. failed_step (facts_of c.args.config.now) c.args.reader.now c.next_request.new.self _ _ c.in-LinkFault.field-0 before now refl) (c.in-LinkFault.ensures.next c.requires.reading)

pub returns-in-Memory-clause-served : goal.returns-in-Memory-clause-served
returns-in-Memory-clause-served g c =
    goes_then _ _ _ _ _ _
    (λ before between now. starved_step (facts_of c.args.config.now) c.args.reader.now c.next_request.new.self _ _ c.give_up.result before between now refl)
    (c.in-Memory.ensures.next c.requires.reading) c.give_up.ensures.gives
