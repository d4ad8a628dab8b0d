-- A body, by its format.
use Rattle.std.proofs.Common.{◌≡◌, Err, List, ℕ, sym, subst}
use Rattle.std.specs.declared.alloc.Global.{Global}
use Rattle.faults.specs.Answers.{IfAnswered, IfFault, IsMapped}
use Rattle.faults.specs.declared.refused.Refused.{Refused}
use Rattle.faults.specs.declared.refused.Refused.TheVariants.{Fault, Memory}
use Rattle.pprof_codec.specs.Read.{IsReadPprof}
use Rattle.pprof_codec.specs.declared.base.Base.{Base}
use Rattle.pprof_codec.specs.declared.fault.PprofFault.{PprofFault}
use Rattle.profile_model.specs.declared.profile.Profile.{Profile}
use Rattle.ingest.specs.Ingests.{AreProfiles, AreProfilesAs, IsBaseOf, IsBodyFault}
use Rattle.ingest.specs.declared.form.Form.{Form}
use Rattle.ingest.specs.declared.form.Format.{Format}
use Rattle.ingest.specs.declared.form.Format.TheVariants.{Pprof}
use Rattle.ingest.specs.declared.fault.IngestFault.{IngestFault}
use Rattle.ingest.specs.declared.fault.IngestFault.TheVariants as told

pub are_profiles : (format : Format) (form : Form) (body : List ℕ) (profiles : List Profile)
    → form.format ≡ format → AreProfilesAs format form body profiles → AreProfiles form body profiles
are_profiles format form body profiles is said = subst (λ one. AreProfilesAs one form body profiles) (sym is) said

-- what stops a pprof stops the body
pub pprof_stops : (form : Form) (base : Base) (body : List ℕ) (refused : Refused PprofFault) (stop : Refused IngestFault)
    → form.format ≡ Pprof → IsBaseOf form base → IfAnswered (IsReadPprof {Z = Global} base body) (Err refused)
    → IsMapped (λ fault wrong. wrong ≡ told.Pprof fault) refused stop → IfFault (IsBodyFault form body) stop
pprof_stops form base body (Fault fault) (Fault wrong) format is read mapped = subst (IsBodyFault form body) (sym mapped) (format, base, is, read)
pprof_stops form base body (Fault fault) Memory format is read mapped = absurd mapped
pprof_stops form base body Memory (Fault wrong) format is read mapped = absurd mapped
pprof_stops form base body Memory Memory format is read mapped = tt
