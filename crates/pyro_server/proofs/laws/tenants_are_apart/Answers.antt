use Rattle.pyro_server.proofs.Histories.{answers_are_isolated, front_is_prefix, replies_are_isolated}
use Rattle.pyro_server.proofs.laws.tenants_are_apart.Goals as goal

pub returns-clause-replies : goal.returns-clause-replies
returns-clause-replies c = replies_are_isolated

pub returns-clause-answers : goal.returns-clause-answers
returns-clause-answers c = answers_are_isolated

pub returns-clause-prefix : goal.returns-clause-prefix
returns-clause-prefix c = front_is_prefix
