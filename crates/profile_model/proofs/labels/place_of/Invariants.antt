use Rattle.std.proofs.Common.{◌≡◌, All, take}
use Rattle.std.specs.declared.cmp.Ordering.TheVariants.{Greater}
use Rattle.profile_model.specs.Stacks.{name_cmp}
use Rattle.profile_model.specs.LabelSets.{Label}
use Rattle.profile_model.proofs.labels.place_of.Given as goal

abbrev pub invariant-loop-at : goal.invariant-loop-at
invariant-loop-at l = All (λ (label : Label). name_cmp l.name label.0 ≡ Greater) (take l.at l.pairs)
