-- The profiles of a pprof: one for each sample type, in order.
use Rattle.std.specs.Prelude.{◌==◌, ℕ, ◌+◌, ◌/◌, ℤ, pos, negsuc, List, [], ◌∷◌, length, map, sum_by, slice_get, unwrap_or, if◌then◌else◌}
use Rattle.std.specs.List.{enumerate_from}
use Rattle.profile_model.specs.LabelSets.{Label}
use Rattle.profile_model.specs.CleanedTexts.{cleaned}
use Rattle.profile_model.specs.ReadKinds.{parts_in}
use Rattle.profile_model.specs.Sums as sums
use Rattle.profile_model.specs.Weights.{label_weight, stack_weight}
use Rattle.profile_model.specs.declared.profile.Profile.{Profile}
use Rattle.pprof_message.specs.declared.lists.ValueType.{ValueType}
use Rattle.pprof_message.specs.Pprof.{Sample, Pprof}
use Rattle.pprof_codec.specs.declared.base.Base.{Base}
use Rattle.pprof_codec.specs.Members.{text_at}
use Rattle.pprof_codec.specs.Frames.{stack_of}

-- what a profile holds
pub record Held : Type 0 where
  pub labels : List Label
  pub parts : List (List ℕ)
  pub time_ms : ℕ
  pub values : List sums.Sample

abbrev pub held_of : Profile → Held
held_of profile = record { labels = profile.labels; parts = parts_in profile.kind; time_ms = profile.time_ms; values = profile.values }

-- a value that is counted; a negative one is refused before
abbrev pub counted : ℤ → ℕ
counted (pos n) = n
counted (negsuc n) = 0

-- the sample's value of the sample type with this number
abbrev pub value_of : ℕ → Sample → ℕ
value_of number sample = counted (unwrap_or (slice_get sample.values number) (pos 0))

-- each sample's stack, and its value of that sample type
unfoldable pub samples_of : Pprof → ℕ → List sums.Sample
samples_of pprof number = map (λ sample. (stack_of pprof sample, value_of number sample)) pprof.samples

-- the base's name, the sample type's two parts, and the period type's two
unfoldable pub parts_of : Base → Pprof → ValueType → List (List ℕ)
parts_of base pprof kind =
    base.name
    ∷ cleaned (text_at pprof.texts kind.kind) ∷ cleaned (text_at pprof.texts kind.unit)
    ∷ cleaned (text_at pprof.texts pprof.period_type.kind) ∷ cleaned (text_at pprof.texts pprof.period_type.unit) ∷ []

-- nanoseconds as milliseconds, rounded down, where the number is positive
abbrev pub time_of : ℕ → ℤ → ℕ
time_of fallback_ms (pos n) = if n == 0 then fallback_ms else n / 1000000
time_of fallback_ms (negsuc n) = fallback_ms

-- the profile of one sample type and its number
unfoldable pub profile_of : Base → Pprof → ℕ → ValueType → Held
profile_of base pprof number kind = record {
  labels = base.labels;
  parts = parts_of base pprof kind;
  time_ms = time_of base.fallback_ms pprof.time_nanos;
  values = sums.sums_of (samples_of pprof number);
}

unfoldable pub profiles_of : Base → Pprof → List Held
profiles_of base pprof = map (λ one. profile_of base pprof one.0 one.1) (enumerate_from 0 pprof.sample_types)

-- ---- their weight

abbrev pub stacks_weight : List sums.Sample → ℕ
stacks_weight values = sum_by (λ sample. stack_weight sample.0) values

abbrev pub held_weight : Held → ℕ
held_weight held =
    128 + sum_by label_weight held.labels + sum_by length held.parts + stacks_weight held.values

unfoldable pub weight_of : List Held → ℕ
weight_of profiles = sum_by held_weight profiles
