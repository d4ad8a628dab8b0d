use Rattle.metastore_index.proofs.BoundaryLemmas.{boundaries_stay}
use Rattle.metastore_index.proofs.EndLemmas.{end_moves}
use Rattle.metastore_index.proofs.TakenLemmas.{none_come_to_nothing, one_more_comes, one_more_body_comes, live_ones_divide, live_ones_were_taken, ids_rise}
use Rattle.metastore_index.proofs.laws.records_taken_in_turn.Goals as goal

pub returns-clause-none : goal.returns-clause-none
returns-clause-none c = none_come_to_nothing

pub returns-clause-one_more : goal.returns-clause-one_more
returns-clause-one_more c = one_more_comes

pub returns-clause-bodies : goal.returns-clause-bodies
returns-clause-bodies c = one_more_body_comes

pub returns-clause-divide : goal.returns-clause-divide
returns-clause-divide c = live_ones_divide

pub returns-clause-taken : goal.returns-clause-taken
returns-clause-taken c = live_ones_were_taken

pub returns-clause-ids : goal.returns-clause-ids
returns-clause-ids c = ids_rise

pub returns-clause-end : goal.returns-clause-end
returns-clause-end c = end_moves

pub returns-clause-boundaries : goal.returns-clause-boundaries
returns-clause-boundaries c = boundaries_stay
