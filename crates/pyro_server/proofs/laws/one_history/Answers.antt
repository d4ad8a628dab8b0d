use Rattle.pyro_server.proofs.Growing.{history_grows, keeps_its_place}
use Rattle.pyro_server.proofs.laws.one_history.Goals as goal

pub returns-clause-grows : goal.returns-clause-grows
returns-clause-grows c = history_grows

pub returns-clause-place : goal.returns-clause-place
returns-clause-place c = keeps_its_place
