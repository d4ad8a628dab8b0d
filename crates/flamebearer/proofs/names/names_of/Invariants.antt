use Rattle.std.proofs.Common.{◌≡◌, [], map, take}
use Rattle.std.specs.List.{flat_map}
use Rattle.flamebearer.specs.Branches.{stacks_of}
use Rattle.flamebearer.specs.Names.{AreNumbered, with_names}
use Rattle.flamebearer.specs.Spots.{name_at}
use Rattle.flamebearer.proofs.names.names_of.Given as goal

abbrev pub invariant-loop-level : goal.invariant-loop-level
invariant-loop-level l = record {
  names : l.names.items ≡ with_names [] (flat_map (map (λ spot. name_at (stacks_of l.labels.frames.now) spot.stands)) (take l.level-index (map (λ level. level.items) l.levels)));
  numbers : AreNumbered l.names.items l.numbers.entries;
}
