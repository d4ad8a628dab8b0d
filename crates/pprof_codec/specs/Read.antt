-- What reading a pprof answers.
use Rattle.std.specs.Prelude.{◌≡◌, ◌⊎◌, ℕ, List, [], map, Some, Result, Ok, Err, Vec}
use Rattle.wire_forms.specs.Gzip.{IsGzip}
use Rattle.profile_model.specs.declared.profile.Profile.{Profile}
use Rattle.pprof_message.specs.declared.fault.MessageFault.TheVariants as message
use Rattle.pprof_message.specs.Pprof.{Pprof}
use Rattle.pprof_message.specs.Read.{IsReadMessage}
use Rattle.pprof_codec.specs.declared.base.Base.{Base}
use Rattle.pprof_codec.specs.declared.fault.PprofFault.{PprofFault}
use Rattle.pprof_codec.specs.declared.fault.PprofFault.TheVariants.{Broken, Compressed}
use Rattle.pprof_codec.specs.Profiles.{held_of, profiles_of}
use Rattle.pprof_codec.specs.Checks.{faults_of, first_of}

-- the profiles of the message that the bytes spell, which has no fault
pub record AreProfilesOf (base : Base) (bytes : List ℕ) (profiles : List Profile) : Type 0 where
  pub plain : ¬ (IsGzip bytes)
  pub pprof : Pprof
  pub spelled : IsReadMessage bytes (Ok pprof)
  pub faultless : faults_of base pprof ≡ []
  pub own : map held_of profiles ≡ profiles_of base pprof

-- the bytes spell a message, and this is the first of its faults
pub record IsMessageFault (base : Base) (bytes : List ℕ) (fault : PprofFault) : Type 0 where
  pub pprof : Pprof
  pub spelled : IsReadMessage bytes (Ok pprof)
  pub first : first_of (faults_of base pprof) ≡ Some fault

-- the bytes spell no message, and this is the place where they don't
pub record IsBroken (bytes : List ℕ) (fault : PprofFault) : Type 0 where
  pub place : ℕ
  pub broken : IsReadMessage bytes (Err (message.Broken place))
  pub is : fault ≡ Broken place

-- the fault of the bytes, else of their fields, else of the message
abbrev pub IsFirstFault : Base → List ℕ → PprofFault → Type 0
IsFirstFault base bytes fault =
    (IsGzip bytes × (fault ≡ Compressed)) ⊎ ((¬ (IsGzip bytes)) × (IsBroken bytes fault ⊎ IsMessageFault base bytes fault))

-- the profiles of the bytes, or their first fault
abbrev pub IsReadPprof : {Z : Type 0} → Base → List ℕ → Result (Vec Profile Z) PprofFault → Type 0
IsReadPprof base bytes (Ok profiles) = AreProfilesOf base bytes profiles.items
IsReadPprof base bytes (Err fault) = IsFirstFault base bytes fault
