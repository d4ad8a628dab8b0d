use Rattle.std.proofs.Common.{◌≡◌, length, map, []}
use Rattle.flamebearer.specs.Entries.{depths_of, nodes_of, path_after}
use Rattle.flamebearer.specs.Pushes.{grown}
use Rattle.flamebearer.proofs.tree.grow.Given as goal

abbrev pub invariant-loop-at : goal.invariant-loop-at
invariant-loop-at l = record {
  nodes : nodes_of l.entries.items ≡ map (grown l.at-index (path_after [] l.fn.entries.items) l.value) (nodes_of l.fn.entries.items);
  path : path_after [] l.entries.items ≡ path_after [] l.fn.entries.items;
  depths : depths_of l.entries.items ≡ depths_of l.fn.entries.items;
  many : length l.entries.items ≡ length l.fn.entries.items;
}
