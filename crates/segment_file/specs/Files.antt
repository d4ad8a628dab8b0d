-- What the file of an object says, and its fields, in order. Each rule stands at the field where it can be judged: a
-- rule on several fields at the last of them.
use Rattle.std.specs.Prelude.{◌≡◌, ◌&&◌, ℕ, ◌+◌, ◌-◌, Bool, true, not, List, [], ◌∷◌, ◌++◌, length, codes, nat_lt, nat_le, nat_eq, None}
use Rattle.std.specs.List.{list_all}
use Rattle.std.specs.Option.{is_none}
use Rattle.std.specs.Ordering.{is_lt}
use Rattle.std.specs.Cmp.Lexicographic.{pointwise}
use Rattle.profile_model.specs.TenantPlaces.{wrong_place}
use Rattle.profile_model.specs.Kinds.{is_colon}
use Rattle.profile_model.specs.LabelSets.{Label, is_label_name}
use Rattle.profile_model.specs.Limits.{most_frame_bytes, most_frames, most_profile_labels, most_profiles, most_value_bytes, total_bound}
use Rattle.profile_model.specs.Stacks.{name_cmp, stack_cmp}
use Rattle.profile_model.specs.Sums.{Sample, total_of}
use Rattle.segment_file.specs.declared.fault.ObjectRule.TheVariants.{Content, Form}
use Rattle.segment_file.specs.Fields.{Field, Fit, each_of, listed, number, text_of, unless}

-- a profile's labels, the five parts of its type, its time and its values, whatever rules they break
pub record FileProfile : Type 0 where
  pub labels : List Label
  pub name : List ℕ
  pub sample_type : List ℕ
  pub sample_unit : List ℕ
  pub period_type : List ℕ
  pub period_unit : List ℕ
  pub time_ms : ℕ
  pub values : List Sample

-- a push's tenant and profiles
pub record FilePush : Type 0 where
  pub tenant : List ℕ
  pub profiles : List FileProfile

-- a file's first four bytes, the numbers of its first push and of the one behind its last, and its pushes
pub record File : Type 0 where
  pub mark : List ℕ
  pub lo : ℕ
  pub hi : ℕ
  pub pushes : List FilePush

-- ---- the fields of each

-- a name above all before it, and a value
abbrev pub label_fields : List Label → Label → List Field
label_fields before label =
    text_of label.0 (is_label_name label.0 && list_all (λ other. is_lt (name_cmp other.0 label.0)) before)
    ∷ text_of label.1 (nat_lt 0 (length label.1) && nat_le (length label.1) most_value_bytes)
    ∷ []

-- a part of a type
abbrev pub part_field : List ℕ → Field
part_field part = text_of part (list_all (λ b. not (is_colon b)) part)

abbrev pub is_frame : List ℕ → Bool
is_frame frame = nat_lt 0 (length frame) && nat_le (length frame) most_frame_bytes

-- the frames of a stack, the last of which shows whether the stack is in its order
abbrev pub frame_fields : Bool → List (List ℕ) → List Field
frame_fields ordered [] = []
frame_fields ordered (frame ∷ []) = text_of frame (is_frame frame && ordered) ∷ []
frame_fields ordered (frame ∷ next ∷ deeper) = text_of frame (is_frame frame) ∷ frame_fields ordered (next ∷ deeper)

-- at least one frame and not too many, in all a stack above those before it
abbrev pub stack_fields : List Sample → List (List ℕ) → List Field
stack_fields before stack =
    number 4 (length stack) (unless (nat_lt 0 (length stack) && nat_le (length stack) most_frames) Content)
    ∷ frame_fields (list_all (λ other. is_lt (stack_cmp other.0 stack)) before) stack

-- at least 1, and below the bound with all values before it
abbrev pub value_field : List Sample → ℕ → Field
value_field before value = number 8 value (unless (nat_lt 0 value && nat_lt (total_of before + value) total_bound) Content)

abbrev pub sample_fields : List Sample → Sample → List Field
sample_fields before sample = stack_fields before sample.0 ++ value_field before sample.1 ∷ []

-- not too many labels
abbrev pub labels_fields : List Label → List Field
labels_fields labels = listed (nat_le (length labels) most_profile_labels) label_fields labels

abbrev pub profile_fields : FileProfile → List Field
profile_fields profile =
    labels_fields profile.labels
    ++ part_field profile.name ∷ part_field profile.sample_type ∷ part_field profile.sample_unit
    ∷ part_field profile.period_type ∷ part_field profile.period_unit
    ∷ number 8 profile.time_ms None
    ∷ listed true sample_fields profile.values

abbrev pub push_fields : FilePush → List Field
push_fields push =
    text_of push.tenant (is_none (wrong_place push.tenant))
    ∷ listed (nat_le (length push.profiles) most_profiles) (λ before profile. profile_fields profile) push.profiles

abbrev pub mark_of_objects : List ℕ
mark_of_objects = codes "PYO0"

-- four bytes that say what the file is
abbrev pub mark_field : List ℕ → Field
mark_field mark = record { bytes = mark; fits = nat_eq (length mark) 4; breaks = unless (pointwise nat_eq mark mark_of_objects) Form }

abbrev pub file_fields : File → List Field
file_fields file =
    mark_field file.mark
    ∷ number 8 file.lo None
    ∷ number 8 file.hi (unless (nat_lt file.lo file.hi) Form)
    ∷ each_of (λ before push. push_fields push) [] file.pushes

-- Its numbers and lengths have room in their bytes, and it has as many pushes as its two numbers say: so its bytes can
-- be told apart by their counts and lengths alone, whatever rules they break.
pub record IsFile (file : File) : Type 0 where
  pub count : length file.pushes ≡ file.hi - file.lo
  pub fit : Fit (file_fields file)
