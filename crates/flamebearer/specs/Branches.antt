-- Stacks and what they begin with, which a frame and a depth stand for where each comes right behind the one before it.
use Rattle.std.specs.Prelude.{◌≡◌, ℕ, ◌-◌, List, [], ◌∷◌, ◌++◌, length, map, take}
use Rattle.std.specs.List.Sorted.{IsStrictlySortedBy}
use Rattle.profile_model.specs.Stacks.{stack_cmp}
use Rattle.flamebearer.specs.Ends.{AreEnds}
use Rattle.flamebearer.specs.declared.branches.Frame.{Frame}

-- a frame's stack: itself, below as many frames of the stack before as its depth says
abbrev pub stack_with : List (List ℕ) → Frame → List (List ℕ)
stack_with path frame = take (frame.depth - 1) path ++ frame.name ∷ []

abbrev pub stacks_after : List (List ℕ) → List Frame → List (List (List ℕ))
stacks_after path [] = []
stacks_after path (frame ∷ more) = stack_with path frame ∷ stacks_after (stack_with path frame) more

-- the stacks of frames
abbrev pub stacks_of : List Frame → List (List (List ℕ))
stacks_of frames = stacks_after [] frames

abbrev pub depths_of : List Frame → List ℕ
depths_of frames = map (λ frame. frame.depth) frames

-- each stands as deep as its stack has frames, and each stack is above the one before it
pub record AreOrdered (frames : List Frame) : Type 0 where
  pub deep : depths_of frames ≡ map length (stacks_of frames)
  pub ascending : IsStrictlySortedBy stack_cmp (stacks_of frames)

-- in order, each with the place where what stands below it ends
pub record AreBranches (frames : List Frame) (ends : List ℕ) : Type 0 where
  pub ordered : AreOrdered frames
  pub right : AreEnds 0 (depths_of frames) ends
