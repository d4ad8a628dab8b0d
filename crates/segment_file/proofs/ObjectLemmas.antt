-- Objects with the same bytes are the same.
use Rattle.std.proofs.Common.{◌≡◌, ℕ, List, [], ◌∷◌, map, refl, sym, ap, ◌∙◌, arith}
use Rattle.std.proofs.Props.{props}
use Rattle.std.proofs.lemmas.List.{length-map}
use Rattle.profile_model.specs.Kinds.{IsPart}
use Rattle.profile_model.specs.LabelSets.{AreProfileLabels}
use Rattle.profile_model.specs.declared.profile.Profile.{Profile}
use Rattle.profile_model.specs.declared.push.Push.{Push}
use Rattle.segment_file.specs.Decoded.{Spells}
use Rattle.segment_file.specs.Files.{File, FileProfile, FilePush, IsFile}
use Rattle.segment_file.specs.Objects.{IsObject, ObjectView, file_of, profile_said, push_said}
use Rattle.segment_file.proofs.FileLemmas.{file_once}
use mathlib.Core.HLevel.{is_prop→PathP}

-- what a file says of a profile makes it
pub profile_of_said : (profile other : Profile) → profile_said profile ≡ profile_said other → profile ≡ other
profile_of_said profile other same =
    let labels = ap (λ (said : FileProfile). said.labels) same in
    let name = ap (λ (said : FileProfile). said.name) same in
    let sample_type = ap (λ (said : FileProfile). said.sample_type) same in
    let sample_unit = ap (λ (said : FileProfile). said.sample_unit) same in
    let period_type = ap (λ (said : FileProfile). said.period_type) same in
    let period_unit = ap (λ (said : FileProfile). said.period_unit) same in
    λ i. record {
      labels = labels i;
      kind = record {
        name = name i;
        sample_type = sample_type i;
        sample_unit = sample_unit i;
        period_type = period_type i;
        period_unit = period_unit i;
        parts = is_prop→PathP (λ j. IsPart (name j) × IsPart (sample_type j) × IsPart (sample_unit j) × IsPart (period_type j) × IsPart (period_unit j)) (λ j. hlevel props) profile.kind.parts other.kind.parts i;
      };
      time_ms = ap (λ (said : FileProfile). said.time_ms) same i;
      values = ap (λ (said : FileProfile). said.values) same i;
      labelled = is_prop→PathP (λ j. AreProfileLabels (labels j)) (λ j. hlevel props) profile.labelled other.labelled i;
    }

profiles_of_said : (profiles others : List Profile) → map profile_said profiles ≡ map profile_said others → profiles ≡ others
profiles_of_said [] [] same = refl
profiles_of_said [] (other ∷ others) same = absurd cc
profiles_of_said (profile ∷ profiles) [] same = absurd cc
profiles_of_said (profile ∷ profiles) (other ∷ others) same =
    let one : profile_said profile ≡ profile_said other = cc in
    let rest : map profile_said profiles ≡ map profile_said others = cc in
    λ i. profile_of_said profile other one i ∷ profiles_of_said profiles others rest i

push_of_said : (push other : Push) → push_said push ≡ push_said other → push ≡ other
push_of_said push other same =
    let profiles = profiles_of_said push.profiles other.profiles (ap (λ (said : FilePush). said.profiles) same) in
    λ i. record { tenant = ap (λ (said : FilePush). said.tenant) same i; profiles = profiles i }

-- and so of pushes
pub pushes_of_said : (pushes others : List Push) → map push_said pushes ≡ map push_said others → pushes ≡ others
pushes_of_said [] [] same = refl
pushes_of_said [] (other ∷ others) same = absurd cc
pushes_of_said (push ∷ pushes) [] same = absurd cc
pushes_of_said (push ∷ pushes) (other ∷ others) same =
    let one : push_said push ≡ push_said other = cc in
    let rest : map push_said pushes ≡ map push_said others = cc in
    λ i. push_of_said push other one i ∷ pushes_of_said pushes others rest i

pub file_is : (lo : ℕ) (pushes : List Push) → IsObject lo pushes → IsFile (file_of lo pushes)
file_is lo pushes is = record { count = omega (arith, length-map pushes push_said); fit = is.fit }

pub object_once : (bytes : List ℕ) (object other : ObjectView) → Spells bytes object → Spells bytes other → object ≡ other
object_once bytes object other spells also =
    let one = file_once (file_of object.lo object.pushes) (file_of other.lo other.pushes) (file_is object.lo object.pushes spells.whole) (file_is other.lo other.pushes also.whole)
    (sym spells.spelled ∙ also.spelled) in
    let pushes = pushes_of_said object.pushes other.pushes (ap (λ (file : File). file.pushes) one) in
    λ i. record { lo = ap (λ (file : File). file.lo) one i; pushes = pushes i }
