-- What reading the bytes of an object answers.
use Rattle.std.specs.Prelude.{◌≡◌, ◌≢◌, ◌⊎◌, ℕ, List, [], ◌∷◌, ◌++◌, length, Some, Result, Ok, Err}
use Rattle.segment_file.specs.declared.fault.ObjectFault.{ObjectFault}
use Rattle.segment_file.specs.declared.fault.ObjectRule.{ObjectRule}
use Rattle.segment_file.specs.declared.fault.ObjectRule.TheVariants.{Form}
use Rattle.segment_file.specs.Fields.{AreSound, Field, spelled}
use Rattle.segment_file.specs.Files.{File, IsFile, file_fields}
use Rattle.segment_file.specs.Objects.{IsObject, ObjectView, spelling_of}

-- The field stands in some file behind fields that break no rule, and the bytes begin with these.
pub record Reaches (bytes : List ℕ) (field : Field) (rest : List ℕ) (at : ℕ) : Type 0 where
  pub file : File
  pub shape : IsFile file
  pub before : List Field
  pub behind : List Field
  pub fields : file_fields file ≡ before ++ field ∷ behind
  pub sound : AreSound before
  pub bytes_are : bytes ≡ spelled before ++ rest
  pub place : at ≡ length (spelled before)

-- the first field that breaks a rule stands here, whole
pub record HasWrongField (bytes : List ℕ) (rule : ObjectRule) (at : ℕ) : Type 0 where
  pub field : Field
  pub more : List ℕ
  pub reaches : Reaches bytes field (field.bytes ++ more) at
  pub wrong : field.breaks ≡ Some rule

-- the bytes end before or inside a field, and no field before it breaks a rule
pub record EndsInside (bytes : List ℕ) : Type 0 where
  pub field : Field
  pub begun : List ℕ
  pub missing : List ℕ
  pub from : ℕ
  pub reaches : Reaches bytes field begun from
  pub part : field.bytes ≡ begun ++ missing
  pub some : missing ≢ []

-- bytes are left over behind a whole file that breaks no rule
pub record HasMore (bytes : List ℕ) (at : ℕ) : Type 0 where
  pub file : File
  pub shape : IsFile file
  pub sound : AreSound (file_fields file)
  pub more : List ℕ
  pub bytes_are : bytes ≡ spelled (file_fields file) ++ more
  pub some : more ≢ []
  pub place : at ≡ length (spelled (file_fields file))

-- The first fault from the left. Bytes that are missing have the length of the bytes as their place.
abbrev pub IsBroken : List ℕ → ObjectRule → ℕ → Type 0
IsBroken bytes rule at =
    HasWrongField bytes rule at ⊎ ((rule ≡ Form) × ((EndsInside bytes × (at ≡ length bytes)) ⊎ HasMore bytes at))

-- the bytes are the spelling of these pushes, which keep the rules of their types
pub record Spells (bytes : List ℕ) (object : ObjectView) : Type 0 where
  pub whole : IsObject object.lo object.pushes
  pub spelled : bytes ≡ spelling_of object.lo object.pushes

-- the object that the bytes spell, else the first rule that they break, and its place
abbrev pub IsDecoded : List ℕ → Result ObjectView ObjectFault → Type 0
IsDecoded bytes (Ok object) = Spells bytes object
IsDecoded bytes (Err fault) = IsBroken bytes fault.rule fault.at
