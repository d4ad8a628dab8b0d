-- Consecutive pushes of a history, and the one file that spells them.
use Rattle.std.specs.Prelude.{◌≡◌, ◌≢◌, ℕ, ◌+◌, ◌^◌, ◌<◌, ◌≤◌, List, [], length, map, None}
use Rattle.std.specs.List.{All}
use Rattle.std.specs.Map.{keys_of, values_of}
use Rattle.std.specs.Str.{IsUtf8}
use Rattle.profile_model.specs.LabelSets.{AreLabels, AreProfileLabels}
use Rattle.profile_model.specs.Limits.{most_profiles}
use Rattle.profile_model.specs.ReadKinds.{parts_in}
use Rattle.profile_model.specs.Stacks.{IsStack}
use Rattle.profile_model.specs.Sums.{AreSums}
use Rattle.profile_model.specs.TenantPlaces.{wrong_place}
use Rattle.profile_model.specs.declared.profile.Profile.{Profile}
use Rattle.profile_model.specs.declared.push.Push.{Push}
use Rattle.segment_file.specs.Fields.{Fit, spelled}
use Rattle.segment_file.specs.Files.{File, FileProfile, FilePush, file_fields, mark_of_objects}

-- an object, as contracts see it: its pushes, and the number of the first of them
pub record ObjectView : Type 0 where
  pub lo : ℕ
  pub pushes : List Push

-- ---- the spelling

abbrev pub profile_said : Profile → FileProfile
profile_said profile = record {
  labels = profile.labels;
  name = profile.kind.name;
  sample_type = profile.kind.sample_type;
  sample_unit = profile.kind.sample_unit;
  period_type = profile.kind.period_type;
  period_unit = profile.kind.period_unit;
  time_ms = profile.time_ms;
  values = profile.values;
}

abbrev pub push_said : Push → FilePush
push_said push = record { tenant = push.tenant; profiles = map profile_said push.profiles }

-- what the file of these pushes says, the first of them number lo
abbrev pub file_of : ℕ → List Push → File
file_of lo pushes = record { mark = mark_of_objects; lo = lo; hi = lo + length pushes; pushes = map push_said pushes }

-- the one spelling of these pushes, the first of them number lo
abbrev pub spelling_of : ℕ → List Push → List ℕ
spelling_of lo pushes = spelled (file_fields (file_of lo pushes))

-- ---- what an object keeps, by the rules of its types

abbrev pub IsTime : ℕ → Type 0
IsTime ms = ms < 2 ^ 64

-- each text of the profile is UTF-8
pub record IsWritten (profile : Profile) : Type 0 where
  pub names : All IsUtf8 (keys_of profile.labels)
  pub values : All IsUtf8 (values_of profile.labels)
  pub parts : All IsUtf8 (parts_in profile.kind)
  pub frames : All (All IsUtf8) (keys_of profile.values)

pub record IsProfile (profile : Profile) : Type 0 where
  pub ascending : AreLabels profile.labels
  pub labels : AreProfileLabels profile.labels
  pub time : IsTime profile.time_ms
  pub sums : AreSums profile.values
  pub stacks : All IsStack (keys_of profile.values)
  pub texts : IsWritten profile

pub record IsPush (push : Push) : Type 0 where
  pub tenant : wrong_place push.tenant ≡ None
  pub few : length push.profiles ≤ most_profiles
  pub each : All IsProfile push.profiles

-- At least one push, each by the rules of its types. The file has room for each number and each text.
pub record IsObject (lo : ℕ) (pushes : List Push) : Type 0 where
  pub some : pushes ≢ []
  pub within : lo + length pushes < 2 ^ 64
  pub each : All IsPush pushes
  pub fit : Fit (file_fields (file_of lo pushes))
