-- Raw profiles give one list of profiles, or have one first fault.
use Rattle.std.proofs.Common.{◌≡◌, ℕ, suc, ◌+◌, ◌<◌, ◌≤◌, List, [], ◌∷◌, ◌++◌, length, Ok, refl, sym, ap, ◌∙◌, subst, arith}
use Rattle.base64.specs.Engines.{standard}
use Rattle.base64.specs.GeneralPurpose.{decode_of}
use Rattle.base64.proofs.EngineFacts.{decode_of-encode_of}
use Rattle.pprof_codec.specs.Read.{AreProfilesOf, IsFirstFault}
use Rattle.pprof_codec.specs.declared.base.Base.{Base}
use Rattle.pprof_codec.specs.declared.fault.PprofFault.{PprofFault}
use Rattle.pprof_codec.proofs.AnswerLemmas.{fault_once, profiles_not_fault, profiles_once}
use Rattle.profile_model.specs.Limits.{most_profiles}
use Rattle.profile_model.specs.Weights.{weight_in_push}
use Rattle.profile_model.specs.declared.profile.Profile.{Profile}
use Rattle.json_push.specs.Pushed.{Fits, IsBase64Of, IsSample, IsSampleFault, SamplesGive}
use Rattle.json_push.specs.declared.fault.PushFault.{PushFault}
use Rattle.json_push.specs.declared.fault.PushFault.TheVariants.{NotBase64, Pprof, TooMany, Weight}

-- ---- one sample

bytes_once : (raw bytes other : List ℕ) → IsBase64Of raw bytes → IsBase64Of raw other → bytes ≡ other
bytes_once raw bytes other h k =
    let same : Ok bytes ≡ Ok other = sym (decode_of-encode_of standard bytes refl h.are_bytes) ∙ ap (decode_of standard) (sym h.is_encoding ∙ k.is_encoding)
    ∙ decode_of-encode_of standard other refl k.are_bytes in cc

module _ (base : Base) (raw : List ℕ) where
  sample_once : (profiles others : List Profile) → IsSample base raw profiles → IsSample base raw others → profiles ≡ others
  sample_once profiles others h k =
      profiles_once base k.bytes profiles others
      (subst (λ bytes. AreProfilesOf base bytes profiles) (bytes_once raw h.bytes k.bytes h.encoded k.encoded) h.read) k.read

  sample_not_pprof_fault : (profiles : List Profile) (bytes : List ℕ) (wrong : PprofFault) → IsSample base raw profiles → IsBase64Of raw bytes
      → IsFirstFault base bytes wrong → ⊥
  sample_not_pprof_fault profiles bytes wrong h encoded k =
      profiles_not_fault base bytes profiles wrong (subst (λ one. AreProfilesOf base one profiles) (bytes_once raw h.bytes bytes h.encoded encoded) h.read) k

  pprof_fault_once : (bytes other : List ℕ) (wrong again : PprofFault) → IsBase64Of raw bytes → IsBase64Of raw other
      → IsFirstFault base bytes wrong → IsFirstFault base other again → wrong ≡ again
  pprof_fault_once bytes other wrong again encoded encoded' h k =
      fault_once base other wrong again (subst (λ one. IsFirstFault base one wrong) (bytes_once raw bytes other encoded encoded') h) k

  module _ (i j : ℕ) (before : List Profile) where
    fits_not_fault : (profiles : List Profile) (wrong : PushFault) → IsSample base raw profiles → Fits (before ++ profiles) → IsSampleFault i j base before raw wrong → ⊥
    fits_not_fault profiles (NotBase64 series sample) h fits k = k.2 h.bytes h.encoded
    fits_not_fault profiles (Pprof series sample wrong) h fits k = sample_not_pprof_fault profiles k.2.0 wrong h k.2.1 k.2.2
    fits_not_fault profiles (TooMany series sample) h fits k =
        let same = ap (λ ps. length (before ++ ps)) (sample_once profiles k.2.0 h k.2.1) in let few = fits.few in let many = k.2.2 in omega arith
    fits_not_fault profiles (Weight series sample) h fits k =
        let same = ap (λ ps. weight_in_push (before ++ ps)) (sample_once profiles k.2.0 h k.2.1) in let light = fits.light in let heavy = k.2.3 in omega arith
    fits_not_fault profiles wrong h fits k = k

    many_not_heavy : (profiles others : List Profile) → IsSample base raw profiles → IsSample base raw others
        → most_profiles < length (before ++ profiles) → length (before ++ others) ≤ most_profiles → ⊥
    many_not_heavy profiles others h k many few = let same = ap (λ ps. length (before ++ ps)) (sample_once profiles others h k) in omega arith

    sample_fault_once : (wrong other : PushFault) → IsSampleFault i j base before raw wrong → IsSampleFault i j base before raw other → wrong ≡ other
    sample_fault_once (NotBase64 a b) (NotBase64 c d) h k = λ n. NotBase64 ((h.0 ∙ sym k.0) n) ((h.1 ∙ sym k.1) n)
    sample_fault_once (NotBase64 a b) (Pprof c d wrong) h k = absurd (h.2 k.2.0 k.2.1)
    sample_fault_once (NotBase64 a b) (TooMany c d) h k = absurd (h.2 k.2.1.bytes k.2.1.encoded)
    sample_fault_once (NotBase64 a b) (Weight c d) h k = absurd (h.2 k.2.1.bytes k.2.1.encoded)
    sample_fault_once (NotBase64 a b) other h k = absurd k
    sample_fault_once (Pprof a b wrong) (NotBase64 c d) h k = absurd (k.2 h.2.0 h.2.1)
    sample_fault_once (Pprof a b wrong) (Pprof c d again) h k =
        let same = pprof_fault_once h.2.0 k.2.0 wrong again h.2.1 k.2.1 h.2.2 k.2.2 in λ n. Pprof ((h.0 ∙ sym k.0) n) ((h.1 ∙ sym k.1) n) (same n)
    sample_fault_once (Pprof a b wrong) (TooMany c d) h k = absurd (sample_not_pprof_fault k.2.0 h.2.0 wrong k.2.1 h.2.1 h.2.2)
    sample_fault_once (Pprof a b wrong) (Weight c d) h k = absurd (sample_not_pprof_fault k.2.0 h.2.0 wrong k.2.1 h.2.1 h.2.2)
    sample_fault_once (Pprof a b wrong) other h k = absurd k
    sample_fault_once (TooMany a b) (NotBase64 c d) h k = absurd (k.2 h.2.1.bytes h.2.1.encoded)
    sample_fault_once (TooMany a b) (Pprof c d wrong) h k = absurd (sample_not_pprof_fault h.2.0 k.2.0 wrong h.2.1 k.2.1 k.2.2)
    sample_fault_once (TooMany a b) (TooMany c d) h k = λ n. TooMany ((h.0 ∙ sym k.0) n) ((h.1 ∙ sym k.1) n)
    sample_fault_once (TooMany a b) (Weight c d) h k = absurd (many_not_heavy h.2.0 k.2.0 h.2.1 k.2.1 h.2.2 k.2.2)
    sample_fault_once (TooMany a b) other h k = absurd k
    sample_fault_once (Weight a b) (NotBase64 c d) h k = absurd (k.2 h.2.1.bytes h.2.1.encoded)
    sample_fault_once (Weight a b) (Pprof c d wrong) h k = absurd (sample_not_pprof_fault h.2.0 k.2.0 wrong h.2.1 k.2.1 k.2.2)
    sample_fault_once (Weight a b) (TooMany c d) h k = absurd (many_not_heavy k.2.0 h.2.0 k.2.1 h.2.1 k.2.2 h.2.2)
    sample_fault_once (Weight a b) (Weight c d) h k = λ n. Weight ((h.0 ∙ sym k.0) n) ((h.1 ∙ sym k.1) n)
    sample_fault_once (Weight a b) other h k = absurd k
    sample_fault_once wrong other h k = absurd h

-- ---- the samples of a series

pub samples_once : (base : Base) (before : List Profile) (raws : List (List ℕ)) (after other : List Profile)
    → SamplesGive base before raws after → SamplesGive base before raws other → after ≡ other
samples_once base before [] after other h k = h ∙ sym k
samples_once base before (raw ∷ raws) after other h k =
    let same : before ++ h.0 ≡ before ++ k.0 = ap (λ ps. before ++ ps) (sample_once base raw h.0 k.0 h.1 k.1) in
    samples_once base (before ++ k.0) raws after other (subst (λ known. SamplesGive base known raws after) same h.3) k.3

-- samples that give profiles have no fault among them
pub samples_not_fault : (i p : ℕ) (base : Base) (before : List Profile) (first : List (List ℕ)) (raw : List ℕ) (last : List (List ℕ)) (between after : List Profile)
    (wrong : PushFault) → SamplesGive base before (first ++ raw ∷ last) after → SamplesGive base before first between → IsSampleFault i p base between raw wrong → ⊥
samples_not_fault i p base before [] raw last between after wrong all none here =
    fits_not_fault base raw i p before all.0 wrong all.1 all.2 (subst (λ known. IsSampleFault i p base known raw wrong) none here)
samples_not_fault i p base before (x ∷ first) raw last between after wrong all earlier here =
    let same : before ++ earlier.0 ≡ before ++ all.0 = ap (λ ps. before ++ ps) (sample_once base x earlier.0 all.0 earlier.1 all.1) in
    samples_not_fault i p base (before ++ all.0) first raw last between after wrong all.3 (subst (λ known. SamplesGive base known first between) same earlier.3) here

-- the first fault of the samples from number j on
pub record IsFault (i j : ℕ) (base : Base) (before : List Profile) (raws first : List (List ℕ)) (wrong : PushFault) : Type 0 where
  pub raw : List ℕ
  pub last : List (List ℕ)
  pub between : List Profile
  pub cut : raws ≡ first ++ raw ∷ last
  pub gives : SamplesGive base before first between
  pub place : ℕ
  pub at : place ≡ j + length first
  pub here : IsSampleFault i place base between raw wrong

fault_at_once : (i j : ℕ) (base : Base) (before : List Profile) (raws : List (List ℕ)) (wrong other : PushFault)
    → IsFault i j base before raws [] wrong → IsFault i j base before raws [] other → wrong ≡ other
fault_at_once i j base before raws wrong other h k =
    let same = sym h.cut ∙ k.cut in
    let raw : h.raw ≡ k.raw = cc in
    let place : h.place ≡ k.place = h.at ∙ sym k.at in
    sample_fault_once base k.raw i k.place before wrong other
    (subst (λ n. IsSampleFault i n base before k.raw wrong) place
    (subst (λ one. IsSampleFault i h.place base before one wrong) raw (subst (λ known. IsSampleFault i h.place base known h.raw wrong) h.gives h.here)))
    (subst (λ known. IsSampleFault i k.place base known k.raw other) k.gives k.here)

fault_not_later : (i j : ℕ) (base : Base) (before : List Profile) (raws : List (List ℕ)) (x : List ℕ) (first : List (List ℕ)) (wrong other : PushFault)
    → IsFault i j base before raws [] wrong → IsFault i j base before raws (x ∷ first) other → ⊥
fault_not_later i j base before raws x first wrong other h k =
    let same = sym h.cut ∙ k.cut in
    let raw : h.raw ≡ x = cc in
    fits_not_fault base x i h.place before k.gives.0 wrong k.gives.1 k.gives.2
    (subst (λ one. IsSampleFault i h.place base before one wrong) raw (subst (λ known. IsSampleFault i h.place base known h.raw wrong) h.gives h.here))

-- the same fault, of the samples behind the first
behind : (i j : ℕ) (base : Base) (before : List Profile) (x : List ℕ) (raws : List (List ℕ)) (y : List ℕ) (first : List (List ℕ)) (wrong : PushFault) (profiles : List Profile)
    (h : IsFault i j base before (x ∷ raws) (y ∷ first) wrong) → h.gives.0 ≡ profiles → IsFault i (suc j) base (before ++ profiles) raws first wrong
behind i j base before x raws y first wrong profiles h same = record {
  raw = h.raw;
  last = h.last;
  between = h.between;
  cut = let whole = h.cut in let rest : raws ≡ first ++ h.raw ∷ h.last = cc in rest;
  gives = subst (λ ps. SamplesGive base (before ++ ps) first h.between) same h.gives.3;
  place = h.place;
  at = let at = h.at in omega arith;
  here = h.here;
}

pub samples_fault_once : (i j : ℕ) (base : Base) (before : List Profile) (raws first second : List (List ℕ)) (wrong other : PushFault)
    → IsFault i j base before raws first wrong → IsFault i j base before raws second other → wrong ≡ other
samples_fault_once i j base before raws [] [] wrong other h k = fault_at_once i j base before raws wrong other h k
samples_fault_once i j base before raws [] (y ∷ second) wrong other h k = absurd (fault_not_later i j base before raws y second wrong other h k)
samples_fault_once i j base before raws (x ∷ first) [] wrong other h k = absurd (fault_not_later i j base before raws x first other wrong k h)
samples_fault_once i j base before [] (x ∷ first) (y ∷ second) wrong other h k = absurd (let whole = h.cut in cc)
samples_fault_once i j base before (raw ∷ raws) (x ∷ first) (y ∷ second) wrong other h k =
    let whole = h.cut in
    let whole' = k.cut in
    let one : x ≡ raw = cc in
    let two : y ≡ raw = cc in
    let same = sample_once base raw h.gives.0 k.gives.0 (subst (λ r. IsSample base r h.gives.0) one h.gives.1) (subst (λ r. IsSample base r k.gives.0) two k.gives.1) in
    samples_fault_once i (suc j) base (before ++ k.gives.0) raws first second wrong other
    (behind i j base before raw raws x first wrong k.gives.0 h same) (behind i j base before raw raws y second other k.gives.0 k refl)
