use Rattle.std.proofs.Common.{ap, ◌∙◌}
use Rattle.std.proofs.lemmas.List.{map_push}
use Rattle.flamebearer.specs.Rows.{levels_in, spots_of}
use Rattle.flamebearer.proofs.PictureLemmas.{laid-step}
use Rattle.flamebearer.proofs.drawing.laid_of.Goals as goal

pub loop-side-preserved : goal.loop-side-preserved
loop-side-preserved c =
    laid-step c.args.branches.now c.args.kept.now (λ side. side.now) c.args.sides.now c.loop-side.side-index _ (spots_of c.loop-side.laid.items) (spots_of c.push.new.self.items) (levels_in c.in_ok-levels.levels)
    c.loop-side-test.true c.loop-side.invariant c.in_ok-levels.ensures.levels c.in_ok-levels.ensures.within
    (ap spots_of c.in_ok-push.ensures.items ∙ map_push levels_in c.loop-side.laid.items c.in_ok-levels.levels)
