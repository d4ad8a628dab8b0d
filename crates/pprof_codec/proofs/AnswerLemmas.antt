-- Bytes have one answer.
use Rattle.std.proofs.Common.{◌≡◌, ◌⊎◌, ⊎_elim, ℕ, List, [], ◌∷◌, get_or, map, Some, Result, Ok, Err, refl, sym, ap, ◌∙◌}
use Rattle.std.specs.Prelude.{Vec}
use Rattle.std.proofs.Props.{props}
use Rattle.std.proofs.lemmas.Option.{none-some}
use Rattle.profile_model.specs.Kinds.{IsPart}
use Rattle.profile_model.specs.LabelSets.{AreProfileLabels}
use Rattle.profile_model.specs.ReadKinds.{parts_in}
use Rattle.profile_model.specs.declared.kind.ProfileType.{ProfileType}
use Rattle.profile_model.specs.declared.profile.Profile.{Profile}
use Rattle.pprof_message.specs.Pprof.{Pprof}
use Rattle.pprof_message.specs.Read.{IsReadMessage}
use Rattle.pprof_message.specs.declared.fault.MessageFault.TheVariants as message
use Rattle.pprof_message.proofs.ReadingLaw.{one_reading}
use Rattle.pprof_codec.specs.declared.base.Base.{Base}
use Rattle.pprof_codec.specs.declared.fault.PprofFault.{PprofFault}
use Rattle.pprof_codec.specs.declared.fault.PprofFault.TheVariants.{Broken}
use Rattle.pprof_codec.specs.Checks.{faults_of, first_of}
use Rattle.pprof_codec.specs.Laws.{told}
use Rattle.pprof_codec.specs.Profiles.{Held, held_of, profiles_of}
use Rattle.pprof_codec.specs.Read.{AreProfilesOf, IsBroken, IsFirstFault, IsMessageFault, IsReadPprof}
use mathlib.Core.HLevel.{is_prop→PathP}

-- ---- what a profile holds makes it, and so of a base

type_once : (kind other : ProfileType) → parts_in kind ≡ parts_in other → kind ≡ other
type_once kind other same =
    let name = ap (λ parts. get_or parts 0 []) same in
    let sample_type = ap (λ parts. get_or parts 1 []) same in
    let sample_unit = ap (λ parts. get_or parts 2 []) same in
    let period_type = ap (λ parts. get_or parts 3 []) same in
    let period_unit = ap (λ parts. get_or parts 4 []) same in
    λ i. record {
      name = name i;
      sample_type = sample_type i;
      sample_unit = sample_unit i;
      period_type = period_type i;
      period_unit = period_unit i;
      parts = is_prop→PathP (λ j. IsPart (name j) × IsPart (sample_type j) × IsPart (sample_unit j) × IsPart (period_type j) × IsPart (period_unit j)) (λ j. hlevel props) kind.parts other.parts i;
    }

pub profile_once : (profile other : Profile) → held_of profile ≡ held_of other → profile ≡ other
profile_once profile other same =
    let labels = ap (λ (held : Held). held.labels) same in
    let kind = type_once profile.kind other.kind (ap (λ (held : Held). held.parts) same) in
    λ i. record {
      labels = labels i;
      kind = kind i;
      time_ms = ap (λ (held : Held). held.time_ms) same i;
      values = ap (λ (held : Held). held.values) same i;
      labelled = is_prop→PathP (λ j. AreProfileLabels (labels j)) (λ j. hlevel props) profile.labelled other.labelled i;
    }

held_once : (profiles others : List Profile) → map held_of profiles ≡ map held_of others → profiles ≡ others
held_once [] [] same = refl
held_once [] (other ∷ others) same = absurd cc
held_once (profile ∷ profiles) [] same = absurd cc
held_once (profile ∷ profiles) (other ∷ others) same =
    let one : held_of profile ≡ held_of other = cc in
    let rest : map held_of profiles ≡ map held_of others = cc in
    λ i. profile_once profile other one i ∷ held_once profiles others rest i

pub base_once : (base other : Base) → base.labels ≡ other.labels → base.name ≡ other.name → base.fallback_ms ≡ other.fallback_ms → base ≡ other
base_once base other labels name time =
    λ i. record {
      labels = labels i;
      name = name i;
      fallback_ms = time i;
      labelled = is_prop→PathP (λ j. AreProfileLabels (labels j)) (λ j. hlevel props) base.labelled other.labelled i;
      part = is_prop→PathP (λ j. IsPart (name j)) (λ j. hlevel props) base.part other.part i;
    }

-- ---- the message

module _ (bytes : List ℕ) where
  spelled_once : (pprof other : Pprof) → IsReadMessage bytes (Ok pprof) → IsReadMessage bytes (Ok other) → pprof ≡ other
  spelled_once pprof other h k =
      let same : Ok pprof ≡ Ok other = one_reading bytes (Ok pprof) (Ok other) h k in cc

  place_once : (at other : ℕ) → IsReadMessage bytes (Err (message.Broken at)) → IsReadMessage bytes (Err (message.Broken other)) → at ≡ other
  place_once at other h k =
      let same = one_reading bytes (Err (message.Broken at)) (Err (message.Broken other)) h k in cc

  spelled_not_broken : (pprof : Pprof) (at : ℕ) → IsReadMessage bytes (Ok pprof) → IsReadMessage bytes (Err (message.Broken at)) → ⊥
  spelled_not_broken pprof at h k =
      let same = one_reading bytes (Ok pprof) (Err (message.Broken at)) h k in cc

-- ---- the parts of an answer

module _ (base : Base) (bytes : List ℕ) where
  pub profiles_once : (profiles others : List Profile) → AreProfilesOf base bytes profiles → AreProfilesOf base bytes others → profiles ≡ others
  profiles_once profiles others h k =
      held_once profiles others (h.own ∙ ap (profiles_of base) (spelled_once bytes h.pprof k.pprof h.spelled k.spelled) ∙ sym k.own)

  faultless_not_fault : (fault : PprofFault) (pprof other : Pprof) → pprof ≡ other → faults_of base pprof ≡ [] → first_of (faults_of base other) ≡ Some fault → ⊥
  faultless_not_fault fault pprof other same faultless first =
      none-some fault (sym (ap first_of (sym (ap (faults_of base) same) ∙ faultless)) ∙ first)

  broken_not_faulty : (fault other : PprofFault) → IsBroken bytes fault → IsMessageFault base bytes other → ⊥
  broken_not_faulty fault other h k = spelled_not_broken bytes k.pprof h.place k.spelled h.broken

  pub profiles_not_fault : (profiles : List Profile) (fault : PprofFault) → AreProfilesOf base bytes profiles → IsFirstFault base bytes fault → ⊥
  profiles_not_fault profiles fault h k =
      ⊎_elim (λ gzip. h.plain gzip.0)
      (λ rest. ⊎_elim (λ broken. spelled_not_broken bytes h.pprof broken.place h.spelled broken.broken)
      (λ faulty. faultless_not_fault fault h.pprof faulty.pprof (spelled_once bytes h.pprof faulty.pprof h.spelled faulty.spelled) h.faultless faulty.first)
      rest.1)
      k

  faulty_once : (fault other : PprofFault) → IsMessageFault base bytes fault → IsMessageFault base bytes other → fault ≡ other
  faulty_once fault other h k =
      let same : Some fault ≡ Some other = sym h.first ∙ ap (λ pprof. first_of (faults_of base pprof)) (spelled_once bytes h.pprof k.pprof h.spelled k.spelled) ∙ k.first in cc

  spelling_once : (fault other : PprofFault) → IsBroken bytes fault ⊎ IsMessageFault base bytes fault → IsBroken bytes other ⊎ IsMessageFault base bytes other → fault ≡ other
  spelling_once fault other h k =
      ⊎_elim
      (λ broken. ⊎_elim (λ broken'. broken.is ∙ ap Broken (place_once bytes broken.place broken'.place broken.broken broken'.broken) ∙ sym broken'.is)
      (λ faulty'. absurd (broken_not_faulty fault other broken faulty')) k)
      (λ faulty. ⊎_elim (λ broken'. absurd (broken_not_faulty other fault broken' faulty)) (λ faulty'. faulty_once fault other faulty faulty') k)
      h

  pub fault_once : (fault other : PprofFault) → IsFirstFault base bytes fault → IsFirstFault base bytes other → fault ≡ other
  fault_once fault other h k =
      ⊎_elim
      (λ gzip. ⊎_elim (λ gzip'. gzip.1 ∙ sym gzip'.1) (λ rest'. absurd (rest'.0 gzip.0)) k)
      (λ rest. ⊎_elim (λ gzip'. absurd (rest.0 gzip'.0)) (λ rest'. spelling_once fault other rest.1 rest'.1) k)
      h

-- ---- the answer

pub one_answer : {Z : Type 0} (base : Base) (bytes : List ℕ) (first second : Result (Vec Profile Z) PprofFault)
    → IsReadPprof base bytes first → IsReadPprof base bytes second → told first ≡ told second
one_answer base bytes (Ok profiles) (Ok others) h k = ap Ok (profiles_once base bytes profiles.items others.items h k)
one_answer base bytes (Ok profiles) (Err fault) h k = absurd (profiles_not_fault base bytes profiles.items fault h k)
one_answer base bytes (Err fault) (Ok profiles) h k = absurd (profiles_not_fault base bytes profiles.items fault k h)
one_answer base bytes (Err fault) (Err other) h k = ap Err (fault_once base bytes fault other h k)
