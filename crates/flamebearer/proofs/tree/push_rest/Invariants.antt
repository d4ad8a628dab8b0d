use Rattle.std.proofs.Common.{◌≡◌, ◌-◌, ◌≤◌, ◌<◌, ◌++◌, [], length, map, take}
use Rattle.flamebearer.specs.Entries.{AreDeep, ArePlaces, nodes_of, path_after}
use Rattle.flamebearer.specs.Pushes.{fresh, fronts}
use Rattle.flamebearer.proofs.tree.push_rest.Given as goal

abbrev pub invariant-loop-at : goal.invariant-loop-at
invariant-loop-at l = record {
  far : l.shared ≤ l.at;
  near : l.at ≤ length l.frames;
  nodes : nodes_of l.entries.items ≡ nodes_of l.fn.entries.items ++ map (fresh l.frames l.value) (fronts l.frames l.shared (l.at - l.shared));
  path : take l.at (path_after [] l.entries.items) ≡ take l.at l.frames;
  whole : l.shared < l.at → path_after [] l.entries.items ≡ take l.at l.frames;
  deep : AreDeep l.fn.entries.items → AreDeep l.entries.items;
  places : ArePlaces l.entries.items l.spine.items l.frames l.at;
}
