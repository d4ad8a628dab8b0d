-- What flame graphs show.
use Rattle.std.specs.Prelude.{◌≡◌, ◌<◌, ◌≤◌, ℕ, ◌+◌, Bool, true, List, [], length, map, get_or, is_some, sum_by}
use Rattle.std.specs.List.{All}
use Rattle.std.specs.Map.{keys_of}
use Rattle.profile_model.specs.Stacks.{IsStack}
use Rattle.profile_model.specs.Sums.{Sample, AreSums, total_of}
use Rattle.flamebearer.specs.declared.branches.Value.{Value}
use Rattle.flamebearer.specs.Pictures.{AreLevels, Shown, below, is_kept, kept_nodes, left_nodes, root_of, weight_at}
use Rattle.flamebearer.specs.Sides.{IsSide, nodes_with}
use Rattle.flamebearer.specs.Spots.{AreFramed}
use Rattle.flamebearer.specs.Trees.{Node, begins_with, tree_of}

-- sums of stacks
pub record AreStackSums (samples : List Sample) : Type 0 where
  pub sums : AreSums samples
  pub stacks : All IsStack (keys_of samples)

-- the nodes of one side of a picture, in preorder
pub record AreOfSide (nodes : List Node) : Type 0 where
  pub stacks : List (List (List ℕ))
  pub values : List Value
  pub framed : AreFramed stacks
  pub side : IsSide stacks values
  pub are : nodes_with stacks values ≡ nodes

-- a tree of sums is one side
abbrev pub TreesAreSides : Type 0
TreesAreSides = (samples : List Sample) → AreStackSums samples → AreOfSide (tree_of samples)

-- a tree's root has all values
abbrev pub RootsHaveAll : Type 0
RootsHaveAll = (samples : List Sample) → AreStackSums samples → (root_of (tree_of samples)).total ≡ total_of samples

-- the total is the own value and the totals of what stands below, together
abbrev pub IsMadeUp : (ℕ → Bool) → List Node → Shown → Type 0
IsMadeUp keeps nodes shown =
    shown.own + sum_by (λ one. one.total) (below (kept_nodes keeps nodes) (left_nodes keeps nodes) shown) ≡ shown.total

-- whichever nodes are kept, each total that a level shows is made up so
abbrev pub TotalsAreMadeUp : Type 0
TotalsAreMadeUp = (keeps : ℕ → Bool) (nodes : List Node) (levels : List (List Shown)) → AreOfSide nodes → AreLevels keeps nodes levels
    → All (All (IsMadeUp keeps nodes)) levels

-- where there are no more nodes than may be shown, each place of a level is a node's or the root's
abbrev pub AllAreShown : Type 0
AllAreShown = (weight : ℕ → ℕ) (most : ℕ) (nodes : List Node) (levels : List (List Shown)) → length nodes ≤ most → AreLevels (is_kept weight (length nodes) most) nodes levels
    → All (All (λ shown. is_some shown.stack ≡ true)) levels

-- where a node is kept, each node that its stack begins with is kept
abbrev pub OuterNodesAreKept : Type 0
OuterNodesAreKept = (stacks : List (List (List ℕ))) (sides : List (List Value)) (most outer inner : ℕ) → AreFramed stacks → All (IsSide stacks) sides
    → outer < length stacks → inner < length stacks → begins_with (get_or stacks outer []) (get_or stacks inner []) ≡ true
    → is_kept (weight_at (map (nodes_with stacks) sides)) (length stacks) most inner ≡ true
    → is_kept (weight_at (map (nodes_with stacks) sides)) (length stacks) most outer ≡ true
