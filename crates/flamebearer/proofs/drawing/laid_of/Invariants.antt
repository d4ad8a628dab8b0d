use Rattle.std.proofs.Common.{map, take}
use Rattle.flamebearer.specs.Rows.{AreLaidBy, spots_of}
use Rattle.flamebearer.proofs.drawing.laid_of.Given as goal

abbrev pub invariant-loop-side : goal.invariant-loop-side
invariant-loop-side l = AreLaidBy l.branches l.kept (take l.side-index (map (λ side. side.now) l.sides)) (spots_of l.laid.items)
