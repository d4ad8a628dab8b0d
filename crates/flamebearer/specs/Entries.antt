-- The entries of a tree, which hold a frame and a depth where a node has its stack.
use Rattle.std.specs.Prelude.{◌≡◌, ℕ, ◌+◌, ◌-◌, ◌^◌, ◌<◌, ◌≤◌, List, [], ◌∷◌, ◌++◌, length, map, take, get_or}
use Rattle.std.specs.List.{AllByRecursion, IsDistinct}
use Rattle.profile_model.specs.StackOrder.{stack_eq}
use Rattle.flamebearer.specs.Trees.{Node}
use Rattle.flamebearer.specs.declared.branches.Frame.{Frame}
use Rattle.flamebearer.specs.declared.branches.Value.{Value}
use Rattle.flamebearer.specs.declared.tree.Entry.{Entry}

-- an entry's frame, and its values
abbrev pub frame_of : Entry → Frame
frame_of entry = record { name = entry.name; depth = entry.depth }

abbrev pub values_of : Entry → Value
values_of entry = record { own = entry.own; total = entry.total }

-- an entry's stack: its frame, below as many frames of the entry before as its depth says
abbrev pub stack_of : List (List ℕ) → Entry → List (List ℕ)
stack_of path entry = take (entry.depth - 1) path ++ entry.name ∷ []

abbrev pub nodes_after : List (List ℕ) → List Entry → List Node
nodes_after path [] = []
nodes_after path (entry ∷ more) =
    record { stack = stack_of path entry; own = entry.own; total = entry.total } ∷ nodes_after (stack_of path entry) more

-- the nodes of a tree's entries
abbrev pub nodes_of : List Entry → List Node
nodes_of entries = nodes_after [] entries

-- the last entry's stack
abbrev pub path_after : List (List ℕ) → List Entry → List (List ℕ)
path_after path [] = path
path_after path (entry ∷ more) = path_after (stack_of path entry) more

abbrev pub stacks_of : List Entry → List (List (List ℕ))
stacks_of entries = map (λ node. node.stack) (nodes_of entries)

abbrev pub depths_of : List Entry → List ℕ
depths_of entries = map (λ entry. entry.depth) entries

-- each entry stands as deep as its stack has frames
abbrev pub AreDeep : List Entry → Type 0
AreDeep entries = depths_of entries ≡ map length (stacks_of entries)

-- the places of the first so many fronts of a stack
pub record ArePlaces (entries : List Entry) (spine : List ℕ) (stack : List (List ℕ)) (count : ℕ) : Type 0 where
  pub many : length spine ≡ count
  pub within : (n : ℕ) → n < count → get_or spine n 0 < length entries
  pub are : (n : ℕ) → n < count → get_or (stacks_of entries) (get_or spine n 0) [] ≡ take (n + 1) stack

-- what stands at the places may grow by a value
pub record CanGrow (entries : List Entry) (spine : List ℕ) (stack : List (List ℕ)) (value : ℕ) : Type 0 where
  pub places : ArePlaces entries spine stack (length spine)
  pub few : length spine ≤ length stack
  pub distinct : IsDistinct stack_eq (stacks_of entries)
  pub fits : AllByRecursion (λ node. node.total + value < 2 ^ 63) (nodes_of entries)
  pub small : value < 2 ^ 63
