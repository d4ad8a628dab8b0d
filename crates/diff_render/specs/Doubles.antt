-- Flame graphs of two sides, as Pyroscope's double format has them.
use Rattle.std.specs.Prelude.{◌≡◌, ◌||◌, ℕ, Bool, List, [], ◌∷◌, map, find, sum_by, unwrap_or}
use Rattle.std.specs.List.{list_any}
use Rattle.std.specs.List.Sorted.{IsStrictlySortedBy}
use Rattle.profile_model.specs.Stacks.{stack_cmp}
use Rattle.profile_model.specs.StackOrder.{stack_eq}
use Rattle.flamebearer.specs.Trees.{Node}
use Rattle.flamebearer.specs.Pictures.{IsPicture}

-- whether a side has the stack
abbrev pub has : List Node → List (List ℕ) → Bool
has nodes stack = list_any (λ node. stack_eq stack node.stack) nodes

-- the stacks of both sides, each once and in order
pub record AreOfBoth (left right : List Node) (stacks : List (List (List ℕ))) : Type 0 where
  pub ascending : IsStrictlySortedBy stack_cmp stacks
  pub exact : (stack : List (List ℕ)) → list_any (stack_eq stack) stacks ≡ (has left stack || has right stack)

-- a side's node of the stack, which has no values where the side hasn't the stack
abbrev pub node_at : List Node → List (List ℕ) → Node
node_at nodes stack = unwrap_or (find (λ node. stack_eq stack node.stack) nodes) (record { stack = stack; own = 0; total = 0 })

-- a picture of both sides, and the total of each one's root
pub record DoubleView : Type 0 where
  pub names : List (List ℕ)
  pub levels : List (List ℕ)
  pub left_ticks : ℕ
  pub right_ticks : ℕ
  pub max_self : ℕ

-- the flame graph of two trees with at most so many nodes beside the root
pub record IsDouble (left right : List Node) (most : ℕ) (flame : DoubleView) : Type 0 where
  pub stacks : List (List (List ℕ))
  pub both : AreOfBoth left right stacks
  pub picture : IsPicture (map (node_at left) stacks ∷ map (node_at right) stacks ∷ []) most (record { names = flame.names; levels = flame.levels; max_self = flame.max_self })
  pub left_ticks : flame.left_ticks ≡ sum_by (λ node. node.own) left
  pub right_ticks : flame.right_ticks ≡ sum_by (λ node. node.own) right
