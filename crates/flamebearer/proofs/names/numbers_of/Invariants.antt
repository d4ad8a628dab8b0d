use Rattle.std.proofs.Common.{◌≡◌, ℕ, List, map, take}
use Rattle.flamebearer.specs.Branches.{stacks_of}
use Rattle.flamebearer.specs.Names.{AreNumbered}
use Rattle.flamebearer.specs.Pictures.{number_of}
use Rattle.flamebearer.specs.Spots.{name_at}
use Rattle.flamebearer.proofs.names.numbers_of.Given as goal

abbrev pub invariant-loop-spot : goal.invariant-loop-spot
invariant-loop-spot l = (names : List (List ℕ)) → AreNumbered names l.numbers.entries
    → l.row.items ≡ map (λ spot. number_of names (name_at (stacks_of l.labels.frames.now) spot.stands)) (take l.spot-index l.level)
