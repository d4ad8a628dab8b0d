-- The tree of some stacks: what flame graphs are made of.
use Rattle.std.specs.Prelude.{ℕ, ◌+◌, Bool, List, [], ◌∷◌, ◌++◌, length, map, take, fold, filter, if◌then◌else◌}
use Rattle.std.specs.List.{flat_map, list_any, range_with_len}
use Rattle.std.specs.Map.{keys_of}
use Rattle.profile_model.specs.Sums as sums
use Rattle.profile_model.specs.Sums.{total_of, value_of}
use Rattle.profile_model.specs.StackOrder.{stack_eq}

-- a stack that was met or begins one that was, its own value, and the values of all stacks that it begins, together
pub record Node : Type 0 where
  pub stack : List (List ℕ)
  pub own : ℕ
  pub total : ℕ

-- what a stack begins with, the shortest first, but for nothing
abbrev pub prefixes : List (List ℕ) → List (List (List ℕ))
prefixes stack = map (λ n. take (n + 1) stack) (range_with_len 0 (length stack))

-- whether a stack begins with this one
abbrev pub begins_with : List (List ℕ) → List (List ℕ) → Bool
begins_with front stack = stack_eq (take (length front) stack) front

-- each member once, where it came first
unfoldable pub firsts : {X : Type 0} → (X → X → Bool) → List X → List X
firsts same xs = fold (λ found x. if list_any (same x) found then found else found ++ x ∷ []) [] xs

-- the samples whose stacks begin with this one
abbrev pub beginning_with : List (List ℕ) → List sums.Sample → List sums.Sample
beginning_with stack samples = filter (λ sample. begins_with stack sample.0) samples

unfoldable pub node_of : List sums.Sample → List (List ℕ) → Node
node_of samples stack = record {
  stack = stack;
  own = value_of samples stack;
  total = total_of (beginning_with stack samples);
}

-- The nodes in preorder: of ascending stacks the prefixes ascend too, where each stands at its first place.
unfoldable pub tree_of : List sums.Sample → List Node
tree_of samples = map (node_of samples) (firsts stack_eq (flat_map prefixes (keys_of samples)))
