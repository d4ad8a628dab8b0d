use Rattle.pyro_server.proofs.ServingAt.{is_never_both, is_one_or_the_other}
use Rattle.pyro_server.proofs.laws.defined_or_excused.Goals as goal

pub returns-clause-one : goal.returns-clause-one
returns-clause-one c = is_one_or_the_other

pub returns-clause-never_both : goal.returns-clause-never_both
returns-clause-never_both c = is_never_both
