use Rattle.metastore_index.proofs.LevelLemmas.{levels_stand_together}
use Rattle.metastore_index.proofs.laws.levels_of_entries.Goals as goal

pub returns : goal.returns
returns c = levels_stand_together
