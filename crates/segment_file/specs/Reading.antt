-- What the reader of an object takes, and where it stops. Only its own functions speak of these.
use Rattle.std.specs.Prelude.{◌≡◌, ◌≢◌, ◌⊎◌, ℕ, ◌+◌, ◌^◌, ◌<◌, Bool, false, ◌&&◌, List, [], ◌∷◌, ◌++◌, length, get_or, Some}
use Rattle.std.specs.Int.{bytes_high_first}
use Rattle.std.specs.Str.{is_utf8}
use Rattle.segment_file.specs.declared.fault.ObjectFault.{ObjectFault}
use Rattle.segment_file.specs.declared.fault.ObjectRule.{ObjectRule}
use Rattle.segment_file.specs.declared.fault.ObjectRule.TheVariants.{Content, Form}
use Rattle.segment_file.specs.Fields.{AreSound, Field, Fit, each_of, spelled}

-- the bytes that are left, and the place of the first of them
pub record CursorView : Type 0 where
  pub rest : List ℕ
  pub at : ℕ

-- these bytes were passed
pub record Passes (bytes : List ℕ) (old new : CursorView) : Type 0 where
  pub bytes_are : old.rest ≡ bytes ++ new.rest
  pub place : new.at ≡ old.at + length bytes

-- fewer bytes than so many
pub record AreShort (size : ℕ) (bytes : List ℕ) : Type 0 where
  pub each : (i : ℕ) → get_or bytes i 0 < 256
  pub few : length bytes < size

-- ---- one number or one text, whatever its rule

-- what has a spelling in a field
pub record Spelling (A : Type 0) : Type 1 where
  pub written : A → List ℕ
  pub Fits : A → Type 0

abbrev pub numbers : ℕ → Spelling ℕ
numbers size = record { written = bytes_high_first size; Fits = λ n. n < 256 ^ size }

abbrev pub texts : Spelling (List ℕ)
texts = record { written = λ text. bytes_high_first 4 (length text) ++ text; Fits = λ text. length text < 256 ^ 4 }

abbrev pub marks : Spelling (List ℕ)
marks = record { written = λ mark. mark; Fits = λ mark. length mark ≡ 4 }

-- it stands there whole
pub record IsWhole {A : Type 0} (form : Spelling A) (old new : CursorView) (item : A) : Type 0 where
  pub fits : form.Fits item
  pub passes : Passes (form.written item) old new

-- the bytes end inside one
pub record IsCut {A : Type 0} (form : Spelling A) (old : CursorView) (fault : ObjectFault) : Type 0 where
  pub item : A
  pub fits : form.Fits item
  pub missing : List ℕ
  pub part : form.written item ≡ old.rest ++ missing
  pub some : missing ≢ []
  pub rule : fault.rule ≡ Form
  pub place : fault.at ≡ old.at + length old.rest

-- ---- fields

-- these fields stand there whole, and break no rule
pub record Took (fields : List Field) (old new : CursorView) : Type 0 where
  pub fit : Fit fields
  pub sound : AreSound fields
  pub passes : Passes (spelled fields) old new

-- some value's fields begin so
pub record Begins {A : Type 0} (fields : A → List Field) (front : List Field) : Type 0 where
  pub whole : A
  pub fit : Fit (fields whole)
  pub behind : List Field
  pub are : fields whole ≡ front ++ behind

-- the fields of so many items begin so
pub record BeginsCounted {A : Type 0} (count : ℕ) (fields : List A → A → List Field) (front : List Field) : Type 0 where
  pub items : List A
  pub counted : length items ≡ count
  pub fit : Fit (each_of fields [] items)
  pub behind : List Field
  pub are : each_of fields [] items ≡ front ++ behind

-- the field is whole, and breaks this rule
pub record IsWrongHere (field : Field) (rest : List ℕ) (rule : ObjectRule) : Type 0 where
  pub more : List ℕ
  pub whole : rest ≡ field.bytes ++ more
  pub wrong : field.breaks ≡ Some rule

-- the bytes end before the field or inside it
pub record IsCutHere (field : Field) (rest : List ℕ) : Type 0 where
  pub missing : List ℕ
  pub part : field.bytes ≡ rest ++ missing
  pub some : missing ≢ []

-- behind fields that break no rule one breaks a rule, or the bytes end; and something may begin with these fields
pub record Stopped (May : List Field → Type 0) (old : CursorView) (fault : ObjectFault) : Type 0 where
  pub before : List Field
  pub field : Field
  pub may : May (before ++ field ∷ [])
  pub sound : AreSound before
  pub rest : List ℕ
  pub bytes_are : old.rest ≡ spelled before ++ rest
  pub here : (IsWrongHere field rest fault.rule × (fault.at ≡ old.at + length (spelled before)))
      ⊎ (IsCutHere field rest × (fault.rule ≡ Form) × (fault.at ≡ old.at + length old.rest))

-- a text that keeps its rule and is UTF-8
abbrev pub is_kept : Bool → List ℕ → Bool
is_kept sound text = sound && is_utf8 text

-- the place of a text that breaks its rule
pub record IsContentAt (kept : Bool) (at : ℕ) (fault : ObjectFault) : Type 0 where
  pub broken : kept ≡ false
  pub rule : fault.rule ≡ Content
  pub place : fault.at ≡ at
