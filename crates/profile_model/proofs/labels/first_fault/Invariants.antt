use Rattle.std.proofs.Common.{take}
use Rattle.profile_model.specs.LabelSets.{AreSound}
use Rattle.profile_model.specs.SeenNames.{Knows}
use Rattle.profile_model.proofs.labels.first_fault.Given as goal

abbrev pub invariant-loop-at : goal.invariant-loop-at
invariant-loop-at l = record {
  sound : AreSound (take l.at l.pairs);
  known : Knows l.seen (take l.at l.pairs);
}
