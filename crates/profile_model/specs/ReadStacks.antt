-- What making a stack of frames answers.
use Rattle.std.specs.Prelude.{◌≡◌, ℕ, ◌<◌, ◌≤◌, List, [], length, take, slice_get, Option, Some, None, Result, Ok, Err, IsSomeAnd}
use Rattle.std.specs.List.{All}
use Rattle.profile_model.specs.Limits.{most_frames, most_frame_bytes}
use Rattle.profile_model.specs.Stacks.{IsFrame, IsStack}
use Rattle.profile_model.specs.declared.stack.StackFault.{StackFault}
use Rattle.profile_model.specs.declared.stack.StackFault.TheVariants.{NoFrames, TooDeep, EmptyFrame, LongFrame}

-- frame at is the first that has this wrong length
pub record IsFirstWrong (frames : List (List ℕ)) (at : ℕ) (Wrong : List ℕ → Type 0) : Type 0 where
  pub before : All IsFrame (take at frames)
  pub here : IsSomeAnd (slice_get frames at) Wrong

-- the frames themselves, or the first rule of a stack that they break
abbrev pub IsReadStack : List (List ℕ) → Result (List (List ℕ)) StackFault → Type 0
IsReadStack frames (Ok stack) = IsStack frames × (stack ≡ frames)
IsReadStack frames (Err NoFrames) = frames ≡ []
IsReadStack frames (Err TooDeep) = most_frames < length frames
IsReadStack frames (Err (EmptyFrame at)) =
    (length frames ≤ most_frames) × IsFirstWrong frames at (λ frame. length frame ≡ 0)
IsReadStack frames (Err (LongFrame at)) =
    (length frames ≤ most_frames) × IsFirstWrong frames at (λ frame. most_frame_bytes < length frame)

-- no frame is of a wrong length, or this is the first
abbrev pub IsWrongFrame : List (List ℕ) → Option StackFault → Type 0
IsWrongFrame frames None = All IsFrame frames
IsWrongFrame frames (Some NoFrames) = ⊥
IsWrongFrame frames (Some TooDeep) = ⊥
IsWrongFrame frames (Some (EmptyFrame at)) = IsFirstWrong frames at (λ frame. length frame ≡ 0)
IsWrongFrame frames (Some (LongFrame at)) = IsFirstWrong frames at (λ frame. most_frame_bytes < length frame)
