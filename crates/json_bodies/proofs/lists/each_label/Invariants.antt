use Rattle.std.proofs.Common.{◌≡◌, length}
use Rattle.std.specs.Option.{option_map}
use Rattle.json_bodies.specs.Fields.{each_said}
use Rattle.json_bodies.specs.Pushes.{label_in}
use Rattle.json_bodies.proofs.LoopLemmas.{ItemsSoFar}
use Rattle.json_bodies.proofs.lists.each_label.Given as goal

abbrev pub invariant-items : goal.invariant-items
invariant-items l = ItemsSoFar (λ ds. each_said label_in ds ≡ option_map (λ v. v.items) l.labels) l.depth l.initial.reader l.reader

abbrev pub decreases-items : goal.decreases-items
decreases-items l = length l.reader
