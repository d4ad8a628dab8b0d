use Rattle.std.proofs.Common.{arith}
use Rattle.flamebearer.proofs.LevelLemmas.{next-more}
use Rattle.flamebearer.proofs.levels.next_level.Goals as goal

pub loop-spot-preserved : goal.loop-spot-preserved
loop-spot-preserved c =
    next-more c.args.ends.now c.args.values.now c.args.kept.now c.args.level.now c.loop-spot.spot-index c.loop-spot.next.items _ _ (omega arith) c.loop-spot.invariant c.in_ok-push_below.ensures
