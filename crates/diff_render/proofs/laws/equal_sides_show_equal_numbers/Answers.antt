use Rattle.diff_render.proofs.EqualLemmas.{equal_levels, equal_ticks}
use Rattle.diff_render.proofs.laws.equal_sides_show_equal_numbers.Goals as goal

pub returns-clause-ticks : goal.returns-clause-ticks
returns-clause-ticks c = equal_ticks

pub returns-clause-levels : goal.returns-clause-levels
returns-clause-levels c = equal_levels
