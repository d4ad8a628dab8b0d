use Rattle.block_merge.proofs.MergeLemmas.{merged_is_object, merged_stands, next_follows, steps_are_one}
use Rattle.block_merge.proofs.laws.merged_objects.Goals as goal

pub returns-clause-next : goal.returns-clause-next
returns-clause-next c = next_follows

pub returns-clause-object : goal.returns-clause-object
returns-clause-object c = merged_is_object

pub returns-clause-history : goal.returns-clause-history
returns-clause-history c = merged_stands

pub returns-clause-steps : goal.returns-clause-steps
returns-clause-steps c = steps_are_one
