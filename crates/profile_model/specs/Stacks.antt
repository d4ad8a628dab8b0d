-- Stacks: their limits and their order.
use Rattle.std.specs.Prelude.{ℕ, ◌<◌, ◌≤◌, List, length}
use Rattle.std.specs.List.{All}
use Rattle.std.specs.Ordering.{nat_cmp}
use Rattle.std.specs.declared.cmp.Ordering.{Ordering}
use Rattle.std.specs.Cmp.Lexicographic.{slice_cmp}
use Rattle.profile_model.specs.Limits.{most_frames, most_frame_bytes}

-- a frame's name isn't empty, nor too long
abbrev pub IsFrame : List ℕ → Type 0
IsFrame frame = (0 < length frame) × (length frame ≤ most_frame_bytes)

-- frames, root first: at least one, and not too many
pub record IsStack (frames : List (List ℕ)) : Type 0 where
  pub some : 0 < length frames
  pub few : length frames ≤ most_frames
  pub each : All IsFrame frames

-- by bytes, a proper prefix first
abbrev pub name_cmp : List ℕ → List ℕ → Ordering
name_cmp = slice_cmp nat_cmp

-- frame by frame, a proper prefix first
abbrev pub stack_cmp : List (List ℕ) → List (List ℕ) → Ordering
stack_cmp = slice_cmp name_cmp
