-- Where the joining of two trees stands.
use Rattle.std.specs.Prelude.{◌≡◌, ◌⊎◌, ◌||◌, ℕ, zero, suc, List, [], ◌∷◌, length, map, take, drop, get_or}
use Rattle.std.specs.List.{AllByRecursion, list_any}
use Rattle.std.specs.declared.cmp.Ordering.TheVariants.{Less}
use Rattle.profile_model.specs.Stacks.{stack_cmp}
use Rattle.profile_model.specs.StackOrder.{stack_eq}
use Rattle.flamebearer.specs.Branches.{AreOrdered, stacks_of}
use Rattle.flamebearer.specs.Sides.{IsSide, nodes_with, own_below}
use Rattle.flamebearer.specs.Trees.{Node}
use Rattle.flamebearer.specs.declared.branches.Frame.{Frame}
use Rattle.flamebearer.specs.declared.branches.Value.{Value}
use Rattle.diff_render.specs.Doubles.{has, node_at}

-- one tree, whole
pub record IsWhole (frames : List Frame) (values : List Value) : Type 0 where
  pub ordered : AreOrdered frames
  pub side : IsSide (stacks_of frames) values

-- the stack before this place, and none before the first
abbrev pub stack_before : List (List (List ℕ)) → ℕ → List (List ℕ)
stack_before stacks zero = []
stack_before stacks (suc n) = get_or stacks n []

-- the stack that stands last
abbrev pub last_of : List (List (List ℕ)) → List (List ℕ)
last_of [] = []
last_of (stack ∷ []) = stack
last_of (stack ∷ next ∷ more) = last_of (next ∷ more)

-- what is above the path is above each of these stacks
abbrev pub AreUnder : List (List ℕ) → List (List (List ℕ)) → Type 0
AreUnder path stacks = AllByRecursion (λ q. (m : List (List ℕ)) → stack_cmp path m ≡ Less → stack_cmp q m ≡ Less) stacks

abbrev pub nodes_in : List Frame → List Value → List Node
nodes_in frames values = nodes_with (stacks_of frames) values

-- Of one tree so many nodes are among the stacks so far, whose last one is the path; the values so far are theirs.
pub record IsHalf (frames : List Frame) (values : List Value) (done : ℕ) (stacks : List (List (List ℕ))) (path : List (List ℕ)) (told : List Value) : Type 0 where
  pub many : length told ≡ length stacks
  pub here : nodes_with stacks told ≡ map (node_at (take done (nodes_in frames values))) stacks
  pub below : (p : List (List ℕ)) → own_below p (nodes_with stacks told) ≡ own_below p (take done (nodes_in frames values))
  pub last : (stack_before (stacks_of frames) done ≡ path) ⊎ (stack_cmp (stack_before (stacks_of frames) done) path ≡ Less)
  pub old : AreUnder path (map (λ node. node.stack) (take done (nodes_in frames values)))
  pub above : AllByRecursion (λ node. stack_cmp path node.stack ≡ Less) (drop done (nodes_in frames values))

-- of two trees so many nodes each
pub record IsJoined (left : List Frame) (left_values : List Value) (at : ℕ) (right : List Frame) (right_values : List Value) (beside : ℕ)
    (frames : List Frame) (told_left told_right : List Value) : Type 0 where
  pub ordered : AreOrdered frames
  pub below : AreUnder (last_of (stacks_of frames)) (stacks_of frames)
  pub exact : (stack : List (List ℕ)) → list_any (stack_eq stack) (stacks_of frames)
      ≡ (has (take at (nodes_in left left_values)) stack || has (take beside (nodes_in right right_values)) stack)
  pub of_left : IsHalf left left_values at (stacks_of frames) (last_of (stacks_of frames)) told_left
  pub of_right : IsHalf right right_values beside (stacks_of frames) (last_of (stacks_of frames)) told_right
