use Rattle.std.proofs.Common.{◌≡◌, map, take}
use Rattle.flamebearer.specs.Branches.{stacks_of}
use Rattle.flamebearer.specs.Names.{AreNumbered, with_names}
use Rattle.flamebearer.specs.Spots.{name_at}
use Rattle.flamebearer.proofs.names.add_names.Given as goal

abbrev pub invariant-loop-spot : goal.invariant-loop-spot
invariant-loop-spot l = record {
  names : l.names.items ≡ with_names l.fn.names.items (map (λ spot. name_at (stacks_of l.labels.frames.now) spot.stands) (take l.spot-index l.level));
  numbers : AreNumbered l.names.items l.numbers.entries;
}
