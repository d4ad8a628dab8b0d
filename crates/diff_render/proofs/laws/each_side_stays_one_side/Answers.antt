use Rattle.diff_render.proofs.SideLemmas.{roots_have_ticks, sides_of_both}
use Rattle.diff_render.proofs.laws.each_side_stays_one_side.Goals as goal

pub returns-clause-sides : goal.returns-clause-sides
returns-clause-sides c = sides_of_both

pub returns-clause-roots : goal.returns-clause-roots
returns-clause-roots c = roots_have_ticks
