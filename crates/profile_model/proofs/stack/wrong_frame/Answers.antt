use Rattle.std.proofs.Common.{◌≤◌, length, arith}
use Rattle.std.proofs.lemmas.List.Elements.{All-more}
use Rattle.std.proofs.lemmas.List.{take_all}
use Rattle.profile_model.specs.Stacks.{IsFrame}
use Rattle.profile_model.proofs.stack.wrong_frame.Goals as goal

pub loop-at-preserved : goal.loop-at-preserved
loop-at-preserved c =
    let sized : IsFrame c.index-frames-at.result = (omega arith, omega arith) in
    All-more IsFrame c.args.frames.now c.loop-at.at c.index-frames-at.result (omega arith) c.loop-at.invariant
    (rw (← c.index-frames-at.is) sized)

pub returns : goal.returns
returns c = let all : length c.args.frames.now ≤ c.loop-at.at = omega arith in rw take_all at c.loop-at.invariant
