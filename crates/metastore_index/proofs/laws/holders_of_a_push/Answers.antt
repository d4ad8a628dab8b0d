use Rattle.metastore_index.proofs.HolderLemmas.{others_stay, live_ones_cover, later_is_higher}
use Rattle.metastore_index.proofs.FourLemmas.{at_most_four_hold}
use Rattle.metastore_index.proofs.OnceLemmas.{each_is_held_once, live_one_is_highest}
use Rattle.metastore_index.proofs.laws.holders_of_a_push.Goals as goal

pub returns-clause-others : goal.returns-clause-others
returns-clause-others c = others_stay

pub returns-clause-live : goal.returns-clause-live
returns-clause-live c = live_ones_cover

pub returns-clause-higher : goal.returns-clause-higher
returns-clause-higher c = later_is_higher

pub returns-clause-four : goal.returns-clause-four
returns-clause-four c = at_most_four_hold

pub returns-clause-once : goal.returns-clause-once
returns-clause-once c = each_is_held_once

pub returns-clause-highest : goal.returns-clause-highest
returns-clause-highest c = live_one_is_highest
