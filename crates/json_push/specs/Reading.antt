-- What the parts of reading a push answer.
use Rattle.std.specs.Prelude.{◌≡◌, ℕ, ◌<◌, ◌≤◌, List, ◌∷◌, ◌++◌, length}
use Rattle.pprof_codec.specs.declared.base.Base.{Base}
use Rattle.profile_model.specs.Limits.{most_profiles, most_weight}
use Rattle.profile_model.specs.Weights.{weight_in_push}
use Rattle.profile_model.specs.declared.profile.Profile.{Profile}
use Rattle.json_push.specs.Pushed.{Fits, IsBaseOf, IsSample, IsSampleFault, SamplesGive, Series}
use Rattle.json_push.specs.declared.fault.PushFault.{PushFault}
use Rattle.json_push.specs.declared.fault.PushFault.TheVariants.{TooMany, Weight}

-- ---- gathered profiles

-- a push may be of the profiles, and this is what it weighs
pub record AreWeighed (profiles : List Profile) (weight : ℕ) : Type 0 where
  pub fits : Fits profiles
  pub is : weight ≡ weight_in_push profiles

-- with these profiles at the end a push would be over a bound
abbrev pub IsAddFault : ℕ → ℕ → List Profile → List Profile → PushFault → Type 0
IsAddFault i j before profiles (TooMany series sample) = (series ≡ i) × (sample ≡ j) × (most_profiles < length (before ++ profiles))
IsAddFault i j before profiles (Weight series sample) =
    (series ≡ i) × (sample ≡ j) × (length (before ++ profiles) ≤ most_profiles) × (most_weight < weight_in_push (before ++ profiles))
IsAddFault i j before profiles fault = ⊥

-- ---- samples and series

-- the profiles of one more sample at the end
pub record IsOneMore (base : Base) (before : List Profile) (raw : List ℕ) (after : List Profile) : Type 0 where
  pub profiles : List Profile
  pub sample : IsSample base raw profiles
  pub fits : Fits after
  pub end : after ≡ before ++ profiles

-- the first fault of the samples of a series
abbrev pub IsFaultOfSamples : ℕ → Base → List Profile → List (List ℕ) → PushFault → Type 0
IsFaultOfSamples i base before raws wrong =
    (first : List (List ℕ)) × (raw : List ℕ) × (last : List (List ℕ)) × (between : List Profile)
    × (raws ≡ first ++ raw ∷ last) × SamplesGive base before first between × IsSampleFault i (length first) base between raw wrong

-- the profiles of one more series at the end
pub record IsOneSeriesMore (moment : ℕ) (before : List Profile) (one : Series) (after : List Profile) : Type 0 where
  pub base : Base
  pub based : IsBaseOf moment one.0 base
  pub samples : SamplesGive base before one.1 after
