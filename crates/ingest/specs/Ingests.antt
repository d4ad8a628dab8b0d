-- What a request to ingest says: the profiles of its body, or the first fault.
use Rattle.std.specs.Prelude.{◌≡◌, ◌⊎◌, ℕ, ◌<◌, ◌≤◌, List, [], ◌∷◌, Result, Ok, Err, codes}
use Rattle.folded_reader.specs.Folded.{IsReadFolded, IsReadLines}
use Rattle.folded_reader.specs.declared.fault.FoldedFault.{FoldedFault}
use Rattle.pprof_codec.specs.Read.{AreProfilesOf, IsFirstFault}
use Rattle.pprof_codec.specs.declared.base.Base.{Base}
use Rattle.profile_model.specs.Limits.{most_weight}
use Rattle.profile_model.specs.Sums.{Sample}
use Rattle.profile_model.specs.ReadKinds.{parts_in}
use Rattle.profile_model.specs.Weights.{weight_in_push}
use Rattle.profile_model.specs.declared.profile.Profile.{Profile}
use Rattle.ingest.specs.Forms.{Parameters, IsForm, IsFormFault}
use Rattle.ingest.specs.declared.form.Form.{Form}
use Rattle.ingest.specs.declared.form.Format.{Format}
use Rattle.ingest.specs.declared.form.Format.TheVariants.{Folded, Lines, Pprof}
use Rattle.ingest.specs.declared.fault.IngestFault.{IngestFault}
use Rattle.ingest.specs.declared.fault.IngestFault.TheVariants as fault

-- what reading the body in a format of stacks answers
abbrev pub IsReadStacks : Format → List ℕ → Result (List Sample) FoldedFault → Type 0
IsReadStacks Folded body read = IsReadFolded body read
IsReadStacks Lines body read = IsReadLines body read
IsReadStacks Pprof body read = ⊥

-- the profile that stacks make: folded stacks are samples of a processor's time
pub record IsStackProfile (form : Form) (sums : List Sample) (profile : Profile) : Type 0 where
  pub labels : profile.labels ≡ form.labels
  pub kind : parts_in profile.kind ≡ form.name ∷ codes "samples" ∷ form.units ∷ codes "cpu" ∷ codes "nanoseconds" ∷ []
  pub time : profile.time_ms ≡ form.time_ms
  pub values : profile.values ≡ sums

-- what the profiles of a pprof are given besides what it says
pub record IsBaseOf (form : Form) (base : Base) : Type 0 where
  pub labels : base.labels ≡ form.labels
  pub name : base.name ≡ form.name
  pub time : base.fallback_ms ≡ form.time_ms

-- the profiles of a body: those of a pprof, or the one that stacks make
abbrev pub AreProfilesAs : Format → Form → List ℕ → List Profile → Type 0
AreProfilesAs Pprof form body profiles = (base : Base) × IsBaseOf form base × AreProfilesOf base body profiles
AreProfilesAs format form body profiles =
    (sums : List Sample) × (profile : Profile)
    × IsReadStacks format body (Ok sums) × IsStackProfile form sums profile × (profiles ≡ profile ∷ [])

abbrev pub AreProfiles : Form → List ℕ → List Profile → Type 0
AreProfiles form body profiles = AreProfilesAs form.format form body profiles

-- the first fault of a body
abbrev pub IsBodyFault : Form → List ℕ → IngestFault → Type 0
IsBodyFault form body (fault.Folded wrong) = IsReadStacks form.format body (Err wrong)
IsBodyFault form body (fault.Pprof wrong) = (form.format ≡ Pprof) × (base : Base) × IsBaseOf form base × IsFirstFault base body wrong
IsBodyFault form body wrong = ⊥

-- parameters and body say these profiles, and the push isn't too heavy
abbrev pub SaysProfiles : Parameters → List ℕ → ℕ → List Profile → Type 0
SaysProfiles parameters body moment profiles =
    (form : Form) × IsForm parameters moment form × AreProfiles form body profiles × (weight_in_push profiles ≤ most_weight)

-- their first fault: the parameters' come before the body's, and the weight comes last
abbrev pub IsIngestFault : Parameters → List ℕ → ℕ → IngestFault → Type 0
IsIngestFault parameters body moment fault.Weight =
    (form : Form) × (profiles : List Profile) × IsForm parameters moment form × AreProfiles form body profiles × (most_weight < weight_in_push profiles)
IsIngestFault parameters body moment wrong =
    IsFormFault parameters moment wrong ⊎ ((form : Form) × IsForm parameters moment form × IsBodyFault form body wrong)
