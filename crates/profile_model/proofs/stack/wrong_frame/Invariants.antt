use Rattle.std.proofs.Common.{take}
use Rattle.std.specs.List.{All}
use Rattle.profile_model.specs.Stacks.{IsFrame}
use Rattle.profile_model.proofs.stack.wrong_frame.Given as goal

abbrev pub invariant-loop-at : goal.invariant-loop-at
invariant-loop-at l = All IsFrame (take l.at l.frames)
