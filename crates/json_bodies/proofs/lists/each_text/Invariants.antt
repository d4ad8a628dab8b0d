use Rattle.std.proofs.Common.{length}
use Rattle.json_bodies.specs.KeptTexts.{AreTexts, says_of}
use Rattle.json_bodies.proofs.LoopLemmas.{ItemsSoFar}
use Rattle.json_bodies.proofs.lists.each_text.Given as goal

abbrev pub invariant-items : goal.invariant-items
invariant-items l = ItemsSoFar (λ ds. AreTexts (says_of l.element) ds l.texts) l.depth l.initial.reader l.reader

abbrev pub decreases-items : goal.decreases-items
decreases-items l = length l.reader
