use Rattle.pyro_server.proofs.ServingAt.{keeps_account}
use Rattle.pyro_server.proofs.laws.account_of_pushes.Goals as goal

pub returns : goal.returns
returns c = record { account = keeps_account }
