-- What one stack more does to a tree.
use Rattle.std.specs.Prelude.{◌≡◌, ◌&&◌, ◌++◌, ℕ, ◌+◌, ◌-◌, List, length, map, take, nat_lt, not, if◌then◌else◌}
use Rattle.std.specs.List.{range_with_len}
use Rattle.profile_model.specs.StackOrder.{stack_eq}
use Rattle.flamebearer.specs.Parts.{PartAt}
use Rattle.flamebearer.specs.Trees.{Node, begins_with}

-- where a node of at most so many frames begins the stack, its total grows by the value
unfoldable pub grown : ℕ → List (List ℕ) → ℕ → Node → Node
grown most stack value node = record {
  stack = node.stack;
  own = node.own;
  total = node.total + (if begins_with node.stack stack && not (nat_lt most (length node.stack)) then value else 0);
}

-- a node of nothing yet but the stack's value
unfoldable pub fresh : List (List ℕ) → ℕ → List (List ℕ) → Node
fresh stack value front = record { stack = front; own = if stack_eq front stack then value else 0; total = value }

-- what the stack begins with, from so many frames on, up to so many
abbrev pub fronts : List (List ℕ) → ℕ → ℕ → List (List (List ℕ))
fronts stack from count = map (λ n. take (n + 1) stack) (range_with_len from count)

-- the nodes with a stack more, after one with which it shares some frames
pub record IsPushed (before stack : List (List ℕ)) (value : ℕ) (old new : List Node) : Type 0 where
  pub shared : ℕ
  pub part : PartAt before stack shared
  pub nodes : new ≡ map (grown shared stack value) old ++ map (fresh stack value) (fronts stack shared (length stack - shared))
