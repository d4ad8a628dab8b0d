-- From judged parts to what reading a pprof answers.
use Rattle.std.proofs.Common.{◌≡◌, inr, ℕ, List, [], Result, Ok, Err}
use Rattle.std.specs.Prelude.{map, Vec}
use Rattle.wire_forms.specs.Gzip.{IsGzip}
use Rattle.faults.specs.Answers.{IfAnswered, IfFault}
use Rattle.faults.specs.declared.refused.Refused.{Refused}
use Rattle.faults.specs.declared.refused.Refused.TheVariants.{Fault, Memory}
use Rattle.profile_model.specs.declared.profile.Profile.{Profile}
use Rattle.pprof_message.specs.Pprof.{Pprof}
use Rattle.pprof_message.specs.Read.{IsReadMessage}
use Rattle.pprof_codec.specs.declared.base.Base.{Base}
use Rattle.pprof_codec.specs.declared.fault.PprofFault.{PprofFault}
use Rattle.pprof_codec.specs.Profiles.{held_of, profiles_of}
use Rattle.pprof_codec.specs.Checks.{judged_faults, weight_faults, faults_of}
use Rattle.pprof_codec.specs.Read.{IsReadPprof}
use Rattle.pprof_codec.specs.Tables.{IsFirst, Judges}
use Rattle.pprof_codec.proofs.JudgedLemmas.{Leads, weight-leads, faults-none}

module _ (base : Base) (bytes : List ℕ) (pprof : Pprof) (plain : ¬ (IsGzip bytes)) (spelled : IsReadMessage bytes (Ok pprof)) where
  -- a part of the checks has a fault
  pub part-read : (Z : Type 0) (faults : List PprofFault) (refused : Refused PprofFault)
      → Leads faults (faults_of base pprof) → IfFault (IsFirst faults) refused → IfAnswered (IsReadPprof {Z = Z} base bytes) (Err refused)
  part-read Z faults (Fault fault) along h = inr (plain, inr (record { pprof = pprof; spelled = spelled; first = along fault h }))
  part-read Z faults Memory along h = tt

  -- the last part was judged, and none before has a fault
  pub built-read : {Z : Type 0} (result : Result (Vec Profile Z) (Refused PprofFault)) → judged_faults pprof ≡ []
      → Judges result (weight_faults base pprof) (λ profiles. map held_of profiles.items ≡ profiles_of base pprof)
      → IfAnswered (IsReadPprof base bytes) result
  built-read (Ok profiles) none h =
      record { plain = plain; pprof = pprof; spelled = spelled; faultless = faults-none base pprof none h.0; own = h.1 }
  built-read {Z} (Err refused) none h =
      part-read Z (weight_faults base pprof) refused (weight-leads base pprof none) h
