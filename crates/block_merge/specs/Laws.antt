-- What holds of all merged objects.
use Rattle.std.specs.Prelude.{◌≡◌, ◌≢◌, ℕ, ◌+◌, ◌*◌, ◌≤◌, List, [], ◌∷◌, ◌++◌, drop, length, sum_by, take}
use Rattle.std.specs.List.{All, AllZip}
use Rattle.profile_model.specs.declared.push.Push.{Push}
use Rattle.segment_file.specs.Decoded.{Spells}
use Rattle.segment_file.specs.Objects.{IsObject, ObjectView, spelling_of}
use Rattle.block_merge.specs.Merges.{FollowOn, end_of, merged_of}

-- an object that begins where these end follows them
abbrev pub NextFollows : Type 0
NextFollows =
    (objects : List ObjectView) (next : ObjectView) → objects ≢ [] → FollowOn objects → next.lo ≡ end_of (merged_of objects)
    → FollowOn (objects ++ next ∷ [])

-- the pushes keep the rules of their types, and have room in a file
abbrev pub IsWhole : ObjectView → Type 0
IsWhole object = IsObject object.lo object.pushes

-- objects that follow each other make an object, which has a file of its own
abbrev pub MergedIsObject : Type 0
MergedIsObject = (objects : List ObjectView) → objects ≢ [] → FollowOn objects → All IsWhole objects → IsWhole (merged_of objects)

-- the object has the history's pushes of its numbers
abbrev pub Stands : List Push → ObjectView → Type 0
Stands history object = object.pushes ≡ take (length object.pushes) (drop object.lo history)

-- where each of the objects has them, so has the one in their place
abbrev pub MergedStands : Type 0
MergedStands =
    (history : List Push) (objects : List ObjectView) → FollowOn objects → All (Stands history) objects → Stands history (merged_of objects)

-- merging in steps comes to the same as merging all at once
abbrev pub StepsAreOne : Type 0
StepsAreOne = (first : ObjectView) (others later : List ObjectView) → merged_of (merged_of (first ∷ others) ∷ later) ≡ merged_of (first ∷ others ++ later)

-- the mark and the two numbers before the pushes of a file
abbrev pub head_length : ℕ
head_length = 20

-- the bytes of an object's file
abbrev pub length_of : ObjectView → ℕ
length_of object = length (spelling_of object.lo object.pushes)

-- the merged object's file has one head in place of theirs, and else as many bytes as they have together
abbrev pub OneHead : Type 0
OneHead = (objects : List ObjectView) → length_of (merged_of objects) + head_length * length objects ≡ sum_by length_of objects + head_length

-- so what spells the merged object is no longer than what spells the others
abbrev pub NoLonger : Type 0
NoLonger =
    (files : List (List ℕ)) (objects : List ObjectView) (file : List ℕ) → objects ≢ [] → AllZip Spells files objects → Spells file (merged_of objects)
    → length file ≤ sum_by length files
