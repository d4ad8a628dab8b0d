use Rattle.std.proofs.Common.{length}
use Rattle.json_bodies.specs.KeptSeries.{AreSeries}
use Rattle.json_bodies.proofs.LoopLemmas.{ItemsSoFar}
use Rattle.json_bodies.proofs.series.each_series.Given as goal

abbrev pub invariant-items : goal.invariant-items
invariant-items l = ItemsSoFar (λ ds. AreSeries ds l.all) l.depth l.initial.reader l.reader

abbrev pub decreases-items : goal.decreases-items
decreases-items l = length l.reader
