use Rattle.std.proofs.Common.{◌≡◌, [], ◌∷◌, List}
use Rattle.std.specs.List.Sorted.{IsStrictlySortedBy}
use Rattle.profile_model.specs.LabelSets.{AreLabels, Label}
use Rattle.profile_model.proofs.labels.LabelSet.of_service.Goals as goal

one_ascends : (labels : List Label) (label : Label) → labels ≡ label ∷ [] → AreLabels labels
unfolding IsStrictlySortedBy
one_ascends labels label one = rw one (tt, tt)

pub invariant_of-result : goal.invariant_of-result
invariant_of-result c = one_ascends c.push.new.self.items (c.in_ok-from_text.field-0, c.args.service) (rw c.in_ok-pairs.ensures.items at c.in_ok-push.ensures.items)
