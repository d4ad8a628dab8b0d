-- The bytes of an object's file, whatever rules its fields keep.
use Rattle.std.specs.Prelude.{ℕ, ◌+◌, List, ◌++◌, length}
use Rattle.std.specs.Int.{bytes_high_first}
use Rattle.std.specs.List.{flat_map}
use Rattle.profile_model.specs.LabelSets.{Label}
use Rattle.profile_model.specs.ReadKinds.{parts_in}
use Rattle.profile_model.specs.Sums.{Sample}
use Rattle.profile_model.specs.declared.kind.ProfileType.{ProfileType}
use Rattle.profile_model.specs.declared.profile.Profile.{Profile}
use Rattle.profile_model.specs.declared.push.Push.{Push}
use Rattle.segment_file.specs.Files.{mark_of_objects}

-- the length, and the text
abbrev pub text_bytes : List ℕ → List ℕ
text_bytes text = bytes_high_first 4 (length text) ++ text

abbrev pub label_bytes : Label → List ℕ
label_bytes label = text_bytes label.0 ++ text_bytes label.1

-- the count, and the labels
abbrev pub labels_bytes : List Label → List ℕ
labels_bytes labels = bytes_high_first 4 (length labels) ++ flat_map label_bytes labels

-- the five parts
abbrev pub kind_bytes : ProfileType → List ℕ
kind_bytes kind = flat_map text_bytes (parts_in kind)

-- the count, and the frames
abbrev pub stack_bytes : List (List ℕ) → List ℕ
stack_bytes stack = bytes_high_first 4 (length stack) ++ flat_map text_bytes stack

abbrev pub sample_bytes : Sample → List ℕ
sample_bytes sample = stack_bytes sample.0 ++ bytes_high_first 8 sample.1

-- the count, and the samples
abbrev pub values_bytes : List Sample → List ℕ
values_bytes values = bytes_high_first 4 (length values) ++ flat_map sample_bytes values

abbrev pub profile_bytes : Profile → List ℕ
profile_bytes profile = labels_bytes profile.labels ++ kind_bytes profile.kind ++ bytes_high_first 8 profile.time_ms ++ values_bytes profile.values

-- the count, and the profiles
abbrev pub profiles_bytes : List Profile → List ℕ
profiles_bytes profiles = bytes_high_first 4 (length profiles) ++ flat_map profile_bytes profiles

abbrev pub push_bytes : Push → List ℕ
push_bytes push = text_bytes push.tenant ++ profiles_bytes push.profiles

abbrev pub object_bytes : ℕ → List Push → List ℕ
object_bytes lo pushes = mark_of_objects ++ (bytes_high_first 8 lo ++ (bytes_high_first 8 (lo + length pushes) ++ flat_map push_bytes pushes))
