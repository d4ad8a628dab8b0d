-- Fields as they are read, one after another.
use Rattle.std.specs.Prelude.{◌≡◌, ◌&&◌, ℕ, Bool, true, List, [], ◌∷◌, ◌++◌, length, nat_le, nat_lt, not, MatchResult, None, Result}
use Rattle.std.specs.List.{list_all}
use Rattle.std.specs.Option.{is_none}
use Rattle.std.specs.Ordering.{is_lt}
use Rattle.faults.specs.Answers.{IfFault}
use Rattle.faults.specs.declared.refused.Refused.{Refused}
use Rattle.profile_model.specs.Kinds.{is_colon}
use Rattle.profile_model.specs.LabelSets.{Label, is_label_name}
use Rattle.profile_model.specs.Limits.{most_frames, most_profile_labels, most_profiles, most_value_bytes}
use Rattle.profile_model.specs.Stacks.{name_cmp, stack_cmp}
use Rattle.profile_model.specs.Sums.{Sample}
use Rattle.profile_model.specs.TenantPlaces.{wrong_place}
use Rattle.profile_model.specs.declared.kind.ProfileType.{ProfileType}
use Rattle.segment_file.specs.declared.fault.ObjectFault.{ObjectFault}
use Rattle.segment_file.specs.declared.fault.ObjectRule.TheVariants.{Content, Form}
use Rattle.segment_file.specs.Fields.{Field, each_of, listed, number, text_of, unless}
use Rattle.segment_file.specs.Files.{File, FileProfile, FilePush, IsFile, file_fields, is_frame, mark_field, profile_fields, push_fields}
use Rattle.segment_file.specs.Reading.{Begins, BeginsCounted, CursorView, Stopped, Took}

-- one field
abbrev pub alone : {A : Type 0} → (A → Field) → A → List Field
alone field item = field item ∷ []

-- a text whose rule is this
abbrev pub judged : (List ℕ → Bool) → List ℕ → Field
judged judge text = text_of text (judge text)

-- the count of a list
abbrev pub count_field : (ℕ → Bool) → ℕ → Field
count_field few n = number 4 n (unless (few n) Content)

abbrev pub list_fields : {A : Type 0} → (ℕ → Bool) → (List A → A → List Field) → List A → List Field
list_fields few fields items = listed (few (length items)) fields items

-- ---- what is read

-- the value whose fields stand there, or else where they stop
abbrev pub IsRead : {A B : Type 0} → (B → List Field) → (A → B) → CursorView → CursorView → Result A (Refused ObjectFault) → Type 0
IsRead fields said old new result = MatchResult result (λ item. Took (fields (said item)) old new) (IfFault (Stopped (Begins fields) old))

-- the one value
abbrev pub IsFieldRead : {A : Type 0} → (A → Field) → CursorView → CursorView → Result A (Refused ObjectFault) → Type 0
IsFieldRead field old new result = IsRead (alone field) (λ item. item) old new result

-- so many items
abbrev pub AreRead : {A B : Type 0} → ℕ → (List B → B → List Field) → (A → List B) → CursorView → CursorView → Result A (Refused ObjectFault) → Type 0
AreRead count fields said old new result =
    MatchResult result (λ items. (length (said items) ≡ count) × Took (each_of fields [] (said items)) old new) (IfFault (Stopped (BeginsCounted count fields) old))

-- one item more
abbrev pub IsNextRead : {A B : Type 0} → (List B → B → List Field) → List B → List B → CursorView → CursorView → Result A (Refused ObjectFault) → Type 0
IsNextRead {A} {B} fields before after old new result =
    MatchResult result (λ _. (item : B) × (after ≡ before ++ item ∷ []) × Took (fields before item) old new) (IfFault (Stopped (Begins (fields before)) old))

-- ---- labels

abbrev pub few_labels : ℕ → Bool
few_labels n = nat_le n most_profile_labels

-- the name is above those of the labels before it
abbrev pub is_above_labels : List Label → List ℕ → Bool
is_above_labels before name = list_all (λ other. is_lt (name_cmp other.0 name)) before

abbrev pub is_next_name : List Label → List ℕ → Bool
is_next_name before name = is_label_name name && is_above_labels before name

abbrev pub is_label_value : List ℕ → Bool
is_label_value value = nat_lt 0 (length value) && nat_le (length value) most_value_bytes

-- ---- stacks and values

abbrev pub few_frames : ℕ → Bool
few_frames n = nat_lt 0 n && nat_le n most_frames

-- the stack is above those before it
abbrev pub is_above_stacks : List Sample → List (List ℕ) → Bool
is_above_stacks before stack = list_all (λ other. is_lt (stack_cmp other.0 stack)) before

-- a frame that isn't the last of its stack
abbrev pub inner_frame_fields : List (List ℕ) → List ℕ → List Field
inner_frame_fields before frame = judged is_frame frame ∷ []

-- the last frame behind these, of a stack above those before it
abbrev pub is_last_frame : List Sample → List (List ℕ) → List ℕ → Bool
is_last_frame before frames frame = is_frame frame && is_above_stacks before (frames ++ frame ∷ [])

abbrev pub any_count : ℕ → Bool
any_count n = true

-- ---- profiles and pushes

-- the five parts of a type, whatever rules they break
pub record FileKind : Type 0 where
  pub name : List ℕ
  pub sample_type : List ℕ
  pub sample_unit : List ℕ
  pub period_type : List ℕ
  pub period_unit : List ℕ

abbrev pub is_part : List ℕ → Bool
is_part part = list_all (λ b. not (is_colon b)) part

abbrev pub kind_fields : FileKind → List Field
kind_fields kind =
    judged is_part kind.name ∷ judged is_part kind.sample_type ∷ judged is_part kind.sample_unit ∷ judged is_part kind.period_type ∷ judged is_part kind.period_unit ∷ []

abbrev pub kind_said : ProfileType → FileKind
kind_said kind = record {
  name = kind.name;
  sample_type = kind.sample_type;
  sample_unit = kind.sample_unit;
  period_type = kind.period_type;
  period_unit = kind.period_unit;
}

abbrev pub time_field : ℕ → Field
time_field ms = number 8 ms None

abbrev pub is_tenant : List ℕ → Bool
is_tenant tenant = is_none (wrong_place tenant)

abbrev pub few_profiles : ℕ → Bool
few_profiles n = nat_le n most_profiles

abbrev pub each_profile : List FileProfile → FileProfile → List Field
each_profile before profile = profile_fields profile

abbrev pub each_push : List FilePush → FilePush → List Field
each_push before push = push_fields push

-- ---- the file

-- the fields of a whole file begin so
pub record BeginsFile (front : List Field) : Type 0 where
  pub file : File
  pub shape : IsFile file
  pub behind : List Field
  pub are : file_fields file ≡ front ++ behind

abbrev pub lo_field : ℕ → Field
lo_field lo = number 8 lo None

abbrev pub hi_field : ℕ → ℕ → Field
hi_field lo hi = number 8 hi (unless (nat_lt lo hi) Form)

-- the fields before the pushes
abbrev pub head_fields : List ℕ → ℕ → ℕ → List Field
head_fields mark lo hi = mark_field mark ∷ lo_field lo ∷ hi_field lo hi ∷ []
