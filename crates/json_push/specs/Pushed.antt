-- What a JSON push says (the pusher service of Pyroscope's API; RFC 4648 for base64). The bounds and the order of the
-- faults are this project's own.
use Rattle.std.specs.Prelude.{◌≡◌, ℕ, ◌<◌, ◌≤◌, List, [], ◌∷◌, ◌++◌, length, codes, Some, Ok, Err, if◌then◌else◌}
use Rattle.std.specs.BTreeMap.{insert_entry}
use Rattle.base64.specs.Engines.{standard}
use Rattle.base64.specs.GeneralPurpose.{encode_of, IsBytes}
use Rattle.serde_json.specs.Data.{Data}
use Rattle.json_bodies.specs.Objects.{IsReadObject}
use Rattle.json_bodies.specs.Pushes.{push_in}
use Rattle.json_bodies.specs.PushFaults.{IsShapeFault}
use Rattle.json_bodies.specs.declared.object.JsonFault.TheVariants.{NotObject as no_object}
use Rattle.json_bodies.specs.declared.push.ShapeFault.TheVariants.{Wrong as wrong_shape}
use Rattle.pprof_codec.specs.Read.{AreProfilesOf, IsFirstFault}
use Rattle.pprof_codec.specs.declared.base.Base.{Base}
use Rattle.profile_model.specs.LabelSets.{Label, has_label}
use Rattle.profile_model.specs.Limits.{most_profiles, most_weight}
use Rattle.profile_model.specs.ReadLabels.{IsReadLabels}
use Rattle.profile_model.specs.Series.{kind_name, own_labels}
use Rattle.profile_model.specs.Stacks.{name_cmp}
use Rattle.profile_model.specs.Weights.{weight_in_push}
use Rattle.profile_model.specs.declared.profile.Profile.{Profile}
use Rattle.json_push.specs.declared.fault.PushFault.{PushFault}
use Rattle.json_push.specs.declared.fault.PushFault.TheVariants as fault

-- labels as they were sent, and the texts of the samples
abbrev pub Series : Type 0
Series = List Label × List (List ℕ)

-- ---- one series

-- a series that names no service is `unspecified`
abbrev pub with_service : List Label → List Label
with_service labels =
    if has_label labels (codes "service_name") then labels else insert_entry name_cmp labels (codes "service_name") (codes "unspecified")

-- what the labels give each profile of the series
pub record IsBaseOf (moment : ℕ) (pairs : List Label) (base : Base) : Type 0 where
  pub labels : List Label
  pub read : IsReadLabels pairs (Ok labels)
  pub own : base.labels ≡ with_service (own_labels labels)
  pub name : base.name ≡ kind_name labels
  pub time : base.fallback_ms ≡ moment

-- ---- one sample

-- the text is the standard base64, with padding, of these bytes
pub record IsBase64Of (text bytes : List ℕ) : Type 0 where
  pub are_bytes : IsBytes bytes
  pub is_encoding : text ≡ encode_of standard bytes

-- the profiles of a raw profile
pub record IsSample (base : Base) (raw : List ℕ) (profiles : List Profile) : Type 0 where
  pub bytes : List ℕ
  pub encoded : IsBase64Of raw bytes
  pub read : AreProfilesOf base bytes profiles

-- a push may be of these profiles
pub record Fits (profiles : List Profile) : Type 0 where
  pub few : length profiles ≤ most_profiles
  pub light : weight_in_push profiles ≤ most_weight

-- the first fault of a raw profile, where the push has these profiles before
abbrev pub IsSampleFault : ℕ → ℕ → Base → List Profile → List ℕ → PushFault → Type 0
IsSampleFault i j base before raw (fault.NotBase64 series sample) = (series ≡ i) × (sample ≡ j) × ((bytes : List ℕ) → ¬ (IsBase64Of raw bytes))
IsSampleFault i j base before raw (fault.Pprof series sample wrong) =
    (series ≡ i) × (sample ≡ j) × ((bytes : List ℕ) × IsBase64Of raw bytes × IsFirstFault base bytes wrong)
IsSampleFault i j base before raw (fault.TooMany series sample) =
    (series ≡ i) × (sample ≡ j) × ((profiles : List Profile) × IsSample base raw profiles × (most_profiles < length (before ++ profiles)))
IsSampleFault i j base before raw (fault.Weight series sample) =
    (series ≡ i) × (sample ≡ j)
    × ((profiles : List Profile) × IsSample base raw profiles × (length (before ++ profiles) ≤ most_profiles) × (most_weight < weight_in_push (before ++ profiles)))
IsSampleFault i j base before raw wrong = ⊥

-- ---- all samples of a series, and all series

-- with the profiles of each sample at the end, in order, the push has these, and it could be of them all along
abbrev pub SamplesGive : Base → List Profile → List (List ℕ) → List Profile → Type 0
SamplesGive base before [] after = after ≡ before
SamplesGive base before (raw ∷ raws) after =
    (profiles : List Profile) × IsSample base raw profiles × Fits (before ++ profiles) × SamplesGive base (before ++ profiles) raws after

abbrev pub SeriesGive : ℕ → List Profile → List Series → List Profile → Type 0
SeriesGive moment before [] after = after ≡ before
SeriesGive moment before (one ∷ more) after =
    (base : Base) × (between : List Profile)
    × IsBaseOf moment one.0 base × SamplesGive base before one.1 between × SeriesGive moment between more after

-- ---- the push

-- the body says these profiles
pub record SaysPushed (body : List ℕ) (moment : ℕ) (profiles : List Profile) : Type 0 where
  pub value : Data
  pub series : List Series
  pub object : IsReadObject body (Ok value)
  pub shape : push_in value ≡ Some series
  pub gives : SeriesGive moment [] series profiles

-- the first fault of a series: of its labels, or of the first sample that has one
abbrev pub IsSeriesFault : ℕ → ℕ → List Profile → Series → PushFault → Type 0
IsSeriesFault moment i before one (fault.Label series wrong) = (series ≡ i) × IsReadLabels one.0 (Err wrong)
IsSeriesFault moment i before one wrong =
    (base : Base) × (first : List (List ℕ)) × (raw : List ℕ) × (last : List (List ℕ)) × (between : List Profile)
    × IsBaseOf moment one.0 base × (one.1 ≡ first ++ raw ∷ last) × SamplesGive base before first between
    × IsSampleFault i (length first) base between raw wrong

-- the first fault of the series that has one first
abbrev pub IsFaultOfSeries : ℕ → List Series → PushFault → Type 0
IsFaultOfSeries moment series wrong =
    (first : List Series) × (one : Series) × (last : List Series) × (between : List Profile)
    × (series ≡ first ++ one ∷ last) × SeriesGive moment [] first between × IsSeriesFault moment (length first) between one wrong

-- the body's first fault: it is no object, or of another shape, before any series is read
abbrev pub IsPushFault : List ℕ → ℕ → PushFault → Type 0
IsPushFault body moment fault.NotObject = IsReadObject body (Err no_object)
IsPushFault body moment (fault.Shape series sample) =
    (value : Data) × IsReadObject body (Ok value) × IsShapeFault value (wrong_shape series sample)
IsPushFault body moment wrong =
    (value : Data) × (series : List Series) × IsReadObject body (Ok value) × (push_in value ≡ Some series) × IsFaultOfSeries moment series wrong
