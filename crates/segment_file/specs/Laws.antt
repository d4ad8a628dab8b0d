-- What holds of all objects and their files.
use Rattle.std.specs.Prelude.{◌≡◌, ℕ, ◌+◌, ◌^◌, ◌<◌, ◌≤◌, List, length}
use Rattle.std.specs.List.{All}
use Rattle.profile_model.specs.Limits.{most_weight}
use Rattle.profile_model.specs.Weights.{push_weight}
use Rattle.profile_model.specs.declared.push.Push.{Push}
use Rattle.segment_file.specs.declared.fault.ObjectRule.{ObjectRule}
use Rattle.segment_file.specs.Decoded.{IsBroken, Spells}
use Rattle.segment_file.specs.Files.{File, IsFile, file_fields}
use Rattle.segment_file.specs.Fields.{AreSound, Fit, spelled}
use Rattle.segment_file.specs.Objects.{IsObject, IsPush, ObjectView, file_of}

-- two files with the same bytes say the same, whatever rules they break
abbrev pub OneFile : Type 0
OneFile = (file other : File) → IsFile file → IsFile other → spelled (file_fields file) ≡ spelled (file_fields other) → file ≡ other

-- two objects with the same bytes are the same
abbrev pub OneObject : Type 0
OneObject = (bytes : List ℕ) (object other : ObjectView) → Spells bytes object → Spells bytes other → object ≡ other

-- no field of an object's file breaks a rule
abbrev pub ObjectsAreSound : Type 0
ObjectsAreSound = (lo : ℕ) (pushes : List Push) → IsObject lo pushes → AreSound (file_fields (file_of lo pushes))

-- a file that breaks no rule is an object's
abbrev pub SoundFilesAreObjects : Type 0
SoundFilesAreObjects =
    (file : File) → IsFile file → AreSound (file_fields file) → (object : ObjectView) × (file ≡ file_of object.lo object.pushes) × IsObject object.lo object.pushes

-- bytes of a file that breaks no rule have no fault
abbrev pub NoSoundFileIsBroken : Type 0
NoSoundFileIsBroken =
    (bytes : List ℕ) (file : File) (rule : ObjectRule) (at : ℕ) → IsFile file → AreSound (file_fields file) → bytes ≡ spelled (file_fields file) → ¬ (IsBroken bytes rule at)

-- what spells an object has no fault
abbrev pub NoObjectIsBroken : Type 0
NoObjectIsBroken = (bytes : List ℕ) (object : ObjectView) (rule : ObjectRule) (at : ℕ) → Spells bytes object → ¬ (IsBroken bytes rule at)

-- the same fault, at the same place
pub record IsSameFault (rule other : ObjectRule) (at place : ℕ) : Type 0 where
  pub same : rule ≡ other
  pub together : at ≡ place

-- bytes have one first fault
abbrev pub OneFault : Type 0
OneFault = (bytes : List ℕ) (rule other : ObjectRule) (at place : ℕ) → IsBroken bytes rule at → IsBroken bytes other place → IsSameFault rule other at place

-- the push is within its limit of weight
abbrev pub IsLight : Push → Type 0
IsLight push = push_weight push ≤ most_weight

-- Light pushes that keep the rules of their types have room for their numbers and lengths, where there are fewer than
-- 2^64 up to the last of them.
abbrev pub LightPushesHaveRoom : Type 0
LightPushesHaveRoom =
    (lo : ℕ) (pushes : List Push) → lo + length pushes < 2 ^ 64 → All IsPush pushes → All IsLight pushes → Fit (file_fields (file_of lo pushes))
