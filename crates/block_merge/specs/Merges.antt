-- Objects one after another, and the object of all their pushes.
use Rattle.std.specs.Prelude.{◌≡◌, ℕ, ◌+◌, List, [], ◌∷◌, length}
use Rattle.std.specs.List.{flat_map}
use Rattle.profile_model.specs.declared.push.Push.{Push}
use Rattle.segment_file.specs.Objects.{ObjectView}

-- the number behind that of its last push
abbrev pub end_of : ObjectView → ℕ
end_of object = object.lo + length object.pushes

-- each begins where the one before ends
abbrev pub FollowOn : List ObjectView → Type 0
FollowOn [] = Unit {0}
FollowOn (object ∷ []) = Unit {0}
FollowOn (object ∷ next ∷ later) = (next.lo ≡ end_of object) × FollowOn (next ∷ later)

-- the number of the first push of these objects
abbrev pub begin_of : List ObjectView → ℕ
begin_of [] = 0
begin_of (object ∷ later) = object.lo

-- the pushes of these objects, in order
abbrev pub pushes_of : List ObjectView → List Push
pushes_of objects = flat_map (λ object. object.pushes) objects

-- the object of all of them
abbrev pub merged_of : List ObjectView → ObjectView
merged_of objects = record { lo = begin_of objects; pushes = pushes_of objects }
