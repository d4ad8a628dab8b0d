-- The values that one side has at stacks.
use Rattle.std.specs.Prelude.{◌≡◌, ℕ, ◌^◌, ◌<◌, List, [], ◌∷◌, length, filter, sum_by}
use Rattle.std.specs.List.{All}
use Rattle.flamebearer.specs.Trees.{Node, begins_with}
use Rattle.flamebearer.specs.declared.branches.Value.{Value}

-- the stacks, each with its values
abbrev pub nodes_with : List (List (List ℕ)) → List Value → List Node
nodes_with (stack ∷ stacks) (value ∷ values) = record { stack = stack; own = value.own; total = value.total } ∷ nodes_with stacks values
nodes_with stacks values = []

-- what the nodes whose stacks begin with this one have of their own, together
abbrev pub own_below : List (List ℕ) → List Node → ℕ
own_below stack nodes = sum_by (λ other. other.own) (filter (λ other. begins_with stack other.stack) nodes)

-- a node's total is what stands below its stack
abbrev pub AreSummed : List Node → Type 0
AreSummed nodes = All (λ node. node.total ≡ own_below node.stack nodes) nodes

-- one side of a picture: its values at these stacks, which come to less than 2^63
pub record IsSide (stacks : List (List (List ℕ))) (values : List Value) : Type 0 where
  pub many : length values ≡ length stacks
  pub summed : AreSummed (nodes_with stacks values)
  pub bounded : sum_by (λ node. node.own) (nodes_with stacks values) < 2 ^ 63
