use Rattle.block_merge.proofs.LengthLemmas.{no_longer, one_head}
use Rattle.block_merge.proofs.laws.files_of_merged_objects.Goals as goal

pub returns-clause-head : goal.returns-clause-head
returns-clause-head c = one_head

pub returns-clause-no_longer : goal.returns-clause-no_longer
returns-clause-no_longer c = no_longer
