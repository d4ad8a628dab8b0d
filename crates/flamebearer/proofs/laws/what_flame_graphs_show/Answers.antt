use Rattle.flamebearer.proofs.LawLemmas.{all-shown, totals-made-up}
use Rattle.flamebearer.proofs.OuterLemmas.{outer-kept}
use Rattle.flamebearer.proofs.TreeLemmas.{roots-have-all, trees-are-sides}
use Rattle.flamebearer.proofs.laws.what_flame_graphs_show.Goals as goal

pub returns-clause-tree : goal.returns-clause-tree
returns-clause-tree c = trees-are-sides

pub returns-clause-root : goal.returns-clause-root
returns-clause-root c = roots-have-all

pub returns-clause-children : goal.returns-clause-children
returns-clause-children c = totals-made-up

pub returns-clause-outer : goal.returns-clause-outer
returns-clause-outer c = outer-kept

pub returns-clause-no_other : goal.returns-clause-no_other
returns-clause-no_other c = all-shown
