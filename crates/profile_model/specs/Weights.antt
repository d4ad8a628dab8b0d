-- What pushes weigh, by which they are limited and gathered.
use Rattle.std.specs.Prelude.{ℕ, ◌+◌, List, length, sum_by}
use Rattle.profile_model.specs.LabelSets.{Label}
use Rattle.profile_model.specs.ReadKinds.{parts_in}
use Rattle.profile_model.specs.declared.profile.Profile.{Profile}
use Rattle.profile_model.specs.declared.push.Push.{Push}

-- a stack weighs 16, and for each of its frames 16 and its length
abbrev pub stack_weight : List (List ℕ) → ℕ
stack_weight stack = 16 + sum_by (λ frame. 16 + length frame) stack

-- a label weighs 16 and the lengths of its name and its value
abbrev pub label_weight : Label → ℕ
label_weight label = 16 + length label.0 + length label.1

-- a profile weighs 128, its labels, the lengths of its type's five parts, and its stacks
abbrev pub profile_weight : Profile → ℕ
profile_weight profile =
    128 + sum_by label_weight profile.labels + sum_by length (parts_in profile.kind) + sum_by (λ sample. stack_weight sample.0) profile.values

-- all profiles together
abbrev pub profiles_weight : List Profile → ℕ
profiles_weight profiles = sum_by profile_weight profiles

-- a push of these profiles weighs 256 and the profiles
abbrev pub weight_in_push : List Profile → ℕ
weight_in_push profiles = 256 + profiles_weight profiles

abbrev pub push_weight : Push → ℕ
push_weight push = weight_in_push push.profiles
