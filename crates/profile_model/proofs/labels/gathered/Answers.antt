use Rattle.profile_model.proofs.LabelLemmas.{none_sorted}
use Rattle.profile_model.proofs.labels.gathered.Goals as goal

pub invariant_of-labels : goal.invariant_of-labels
invariant_of-labels c = rw c.new.ensures.items none_sorted
