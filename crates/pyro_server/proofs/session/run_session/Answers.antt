use Rattle.link_trait.proofs.GoesLemmas.{goes_weaker}
use Rattle.request_meaning.specs.Facts.{facts_of}
use Rattle.pyro_server.proofs.Histories.{answers_are_isolated}
use Rattle.pyro_server.proofs.ServingAt.{served_at}
use Rattle.pyro_server.proofs.session.run_session.Goals as goal

pub returns-clause-served : goal.returns-clause-served
returns-clause-served g c =
    goes_weaker _ _ _ _ (λ before now. served_at (facts_of c.args.config) c.serve-ending.new.history.items c.serve-ending.result before now)
    c.serve-ending.ensures.in_turn

pub returns-clause-apart : goal.returns-clause-apart
returns-clause-apart g c = answers_are_isolated
