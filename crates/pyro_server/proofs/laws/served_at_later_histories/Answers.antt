use Rattle.pyro_server.proofs.ServingAt.{among_others_is_served, in_turn_is_served, stays_served}
use Rattle.pyro_server.proofs.laws.served_at_later_histories.Goals as goal

pub returns-clause-in_turn : goal.returns-clause-in_turn
returns-clause-in_turn c = in_turn_is_served

pub returns-clause-among : goal.returns-clause-among
returns-clause-among c = among_others_is_served

pub returns-clause-stays : goal.returns-clause-stays
returns-clause-stays c = stays_served
