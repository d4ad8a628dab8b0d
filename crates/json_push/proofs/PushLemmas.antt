-- One sample more, one series more, and the first that has a fault.
use Rattle.std.proofs.Common.{◌≡◌, ℕ, suc, ◌+◌, ◌<◌, List, [], ◌∷◌, ◌++◌, length, map, get_or, take, drop, Some, Result, Ok, Err, Bor, MatchResult, refl, sym, ap, ◌∙◌, subst, arith, drop-cons}
use Rattle.std.proofs.lemmas.List.{map-append, take_more, take-append-drop, length-map, length-take-le}
use Rattle.faults.specs.Answers.{IfAnswered, IfFault, IsMapped}
use Rattle.faults.specs.declared.refused.Refused.{Refused}
use Rattle.faults.specs.declared.refused.Refused.TheVariants.{Fault, Memory}
use Rattle.faults.proofs.AnswerLemmas.{IfFault-weaker}
use Rattle.serde_json.specs.Data.{Data}
use Rattle.json_bodies.specs.Objects.{IsReadObject}
use Rattle.json_bodies.specs.PushRead.{series_of}
use Rattle.json_bodies.specs.Pushes.{push_in}
use Rattle.json_bodies.specs.declared.push.PushedSeries.{PushedSeries}
use Rattle.pprof_codec.specs.Read.{IsFirstFault, IsReadPprof}
use Rattle.pprof_codec.specs.declared.fault.PprofFault.{PprofFault}
use Rattle.pprof_codec.specs.declared.base.Base.{Base}
use Rattle.profile_model.specs.ReadLabels.{IsReadLabels}
use Rattle.profile_model.specs.declared.labels.LabelFault.{LabelFault}
use Rattle.profile_model.specs.declared.profile.Profile.{Profile}
use Rattle.json_push.specs.Laws.{IsAnswer}
use Rattle.json_push.specs.Pushed.{Fits, IsBase64Of, IsBaseOf, IsFaultOfSeries, IsPushFault, IsSample, IsSampleFault, IsSeriesFault, SamplesGive, Series, SeriesGive}
use Rattle.json_push.specs.Reading.{IsAddFault, IsFaultOfSamples, IsOneMore, IsOneSeriesMore}
use Rattle.json_push.specs.declared.fault.PushFault.{PushFault}
use Rattle.json_push.specs.declared.fault.PushFault.TheVariants.{NotObject, Shape, Label, Pprof, TooMany, Weight}

-- ---- the members of a slice, seen by f

map-more : {X A : Type 0} (f : X → A) (xs : List X) (i : ℕ) (x d : X) → i < length xs → x ≡ get_or xs i d
    → map f (take (i + 1) xs) ≡ map f (take i xs) ++ f x ∷ []
map-more f xs i x d inside is = rw (take_more xs i d inside, ← is, map-append) refl

map-cut : {X A : Type 0} (f : X → A) (xs : List X) (i : ℕ) (x d : X) → i < length xs → x ≡ get_or xs i d
    → map f xs ≡ map f (take i xs) ++ f x ∷ map f (drop (suc i) xs)
map-cut f xs i x d inside is =
    let cut : xs ≡ take i xs ++ x ∷ drop (suc i) xs = sym (take-append-drop i xs)
    ∙ ap (λ rest. take i xs ++ rest) (drop-cons xs i d inside ∙ ap (λ y. y ∷ drop (suc i) xs) (sym is)) in
    ap (map f) cut ∙ map-append f (take i xs) (x ∷ drop (suc i) xs)

map-place : {X A : Type 0} (f : X → A) (xs : List X) (i : ℕ) → i < length xs → length (map f (take i xs)) ≡ i
map-place f xs i inside = length-map (take i xs) f ∙ length-take-le i xs (omega arith)

-- ---- faults, and others that tell them

pub fault_answered : {A F : Type 0} (P : Result A F → Type 0) (refused : Refused F) → IfAnswered P (Err refused) → IfFault (λ wrong. P (Err wrong)) refused
fault_answered P (Fault wrong) h = h
fault_answered P Memory h = tt

told : {F G : Type 0} (P : F → Type 0) (tell : F → G) (Q : G → Type 0) (refused : Refused F) (after : Refused G)
    → ((wrong : F) → P wrong → Q (tell wrong)) → IfFault P refused → IsMapped (λ wrong fault. fault ≡ tell wrong) refused after → IfFault Q after
told P tell Q (Fault wrong) (Fault fault) says holds mapped = rw mapped (says wrong holds)
told P tell Q Memory Memory says holds mapped = tt
told P tell Q (Fault wrong) Memory says holds mapped = absurd mapped
told P tell Q Memory (Fault fault) says holds mapped = absurd mapped

-- ---- samples

pub sample_fault : (i j : ℕ) (base : Base) (before : List Profile) (raw bytes : List ℕ) (Z : Type 0) (refused : Refused PprofFault) (after : Refused PushFault)
    → IsBase64Of raw bytes → IfAnswered (IsReadPprof {Z = Z} base bytes) (Err refused) → IsMapped (λ wrong fault. fault ≡ Pprof i j wrong) refused after
    → IfFault (IsSampleFault i j base before raw) after
sample_fault i j base before raw bytes Z refused after encoded h mapped =
    told (IsFirstFault base bytes) (Pprof i j) (IsSampleFault i j base before raw) refused after
    (λ wrong first. (refl, refl, (bytes, encoded, first))) (fault_answered (IsReadPprof {Z = Z} base bytes) refused h) mapped

over : (i j : ℕ) (base : Base) (before : List Profile) (raw : List ℕ) (profiles : List Profile) → IsSample base raw profiles
    → (wrong : PushFault) → IsAddFault i j before profiles wrong → IsSampleFault i j base before raw wrong
over i j base before raw profiles is (TooMany series sample) h = (h.0, h.1, (profiles, is, h.2))
over i j base before raw profiles is (Weight series sample) h = (h.0, h.1, (profiles, is, h.2, h.3))
over i j base before raw profiles is wrong h = absurd h

pub sample_over : (i j : ℕ) (base : Base) (before : List Profile) (raw : List ℕ) (profiles : List Profile) (refused : Refused PushFault)
    → IsSample base raw profiles → IfFault (IsAddFault i j before profiles) refused → IfFault (IsSampleFault i j base before raw) refused
sample_over i j base before raw profiles refused is h = IfFault-weaker refused (over i j base before raw profiles is) h

samples_push : (base : Base) (before : List Profile) (raws : List (List ℕ)) (raw : List ℕ) (between after : List Profile)
    → SamplesGive base before raws between → IsOneMore base between raw after → SamplesGive base before (raws ++ raw ∷ []) after
samples_push base before [] raw between after same more =
    let joined : after ≡ before ++ more.profiles = more.end ∙ ap (λ known. known ++ more.profiles) same in
    (more.profiles, more.sample, subst Fits joined more.fits, joined)
samples_push base before (first ∷ raws) raw between after gives more =
    (gives.0, gives.1, gives.2, samples_push base (before ++ gives.0) raws raw between after gives.3 more)

pub samples_more : (base : Base) (before : List Profile) (raws : List (Bor (List ℕ))) (i : ℕ) (d : Bor (List ℕ)) (between after : List Profile)
    → i < length raws → SamplesGive base before (map (λ one. one.now) (take i raws)) between
    → IsOneMore base between (get_or raws i d).now after → SamplesGive base before (map (λ one. one.now) (take (i + 1) raws)) after
samples_more base before raws i d between after inside gives more =
    rw (map-more (λ (one : Bor (List ℕ)). one.now) raws i (get_or raws i d) d inside refl)
    (samples_push base before (map (λ one. one.now) (take i raws)) (get_or raws i d).now between after gives more)

pub fault_of_samples : (number : ℕ) (base : Base) (before : List Profile) (raws : List (Bor (List ℕ))) (i : ℕ) (d : Bor (List ℕ))
    (between : List Profile) (refused : Refused PushFault)
    → i < length raws → SamplesGive base before (map (λ one. one.now) (take i raws)) between
    → IfFault (IsSampleFault number i base between (get_or raws i d).now) refused
    → IfFault (IsFaultOfSamples number base before (map (λ one. one.now) raws)) refused
fault_of_samples number base before raws i d between refused inside gives h =
    let raw = (get_or raws i d).now in
    IfFault-weaker {P = IsSampleFault number i base between raw} {Q = IsFaultOfSamples number base before (map (λ one. one.now) raws)} refused
    (λ wrong fault. (
      map (λ one. one.now) (take i raws),
      raw,
      map (λ one. one.now) (drop (suc i) raws),
      between,
      map-cut (λ (one : Bor (List ℕ)). one.now) raws i (get_or raws i d) d inside refl,
      gives,
      subst (λ place. IsSampleFault number place base between raw wrong) (sym (map-place (λ (one : Bor (List ℕ)). one.now) raws i inside)) fault,
    ))
    h

-- ---- series

of_series : (moment number : ℕ) (before : List Profile) (one : Series) (base : Base) → IsBaseOf moment one.0 base
    → (wrong : PushFault) → IsFaultOfSamples number base before one.1 wrong → IsSeriesFault moment number before one wrong
of_series moment number before one base is (Label series fault) h = absurd h.6
of_series moment number before one base is wrong h = (base, h.0, h.1, h.2, h.3, is, h.4, h.5, h.6)

pub added_series : (moment number : ℕ) (before after : List Profile) (one : PushedSeries) (base : Base) (added : Result (Unit {0}) (Refused PushFault))
    → IsBaseOf moment one.labels.items base
    → MatchResult added (λ _. SamplesGive base before (series_of one).1 after) (IfFault (IsFaultOfSamples number base before (series_of one).1))
    → MatchResult added (λ _. IsOneSeriesMore moment before (series_of one) after) (IfFault (IsSeriesFault moment number before (series_of one)))
added_series moment number before after one base (Ok done) is h = record { base = base; based = is; samples = h }
added_series moment number before after one base (Err refused) is h = IfFault-weaker refused (of_series moment number before (series_of one) base is) h

-- a series has the fault of its labels
pub label_fault : (moment number : ℕ) (before : List Profile) (one : Series) (refused : Refused LabelFault) (after : Refused PushFault)
    → IfFault (λ fault. IsReadLabels one.0 (Err fault)) refused → IsMapped (λ wrong fault. fault ≡ Label number wrong) refused after
    → IfFault (IsSeriesFault moment number before one) after
label_fault moment number before one refused after h mapped =
    told (λ fault. IsReadLabels one.0 (Err fault)) (Label number) (IsSeriesFault moment number before one) refused after (λ wrong read. (refl, read)) h mapped

series_push : (moment : ℕ) (before : List Profile) (all : List Series) (one : Series) (between after : List Profile)
    → SeriesGive moment before all between → IsOneSeriesMore moment between one after → SeriesGive moment before (all ++ one ∷ []) after
series_push moment before [] one between after same more =
    (more.base, after, more.based, subst (λ known. SamplesGive more.base known one.1 after) same more.samples, refl)
series_push moment before (first ∷ all) one between after gives more =
    (gives.0, gives.1, gives.2, gives.3, series_push moment gives.1 all one between after gives.4 more)

pub series_more : {X : Type 0} (f : X → Series) (moment : ℕ) (before : List Profile) (all : List X) (i : ℕ) (one : X) (between after : List Profile)
    → i < length all → one ≡ get_or all i one → SeriesGive moment before (map f (take i all)) between
    → IsOneSeriesMore moment between (f one) after → SeriesGive moment before (map f (take (i + 1) all)) after
series_more f moment before all i one between after inside is gives more =
    rw (map-more f all i one one inside is) (series_push moment before (map f (take i all)) (f one) between after gives more)

pub first_fault : {X : Type 0} (f : X → Series) (moment : ℕ) (all : List X) (i : ℕ) (one : X) (between : List Profile) (refused : Refused PushFault)
    → i < length all → one ≡ get_or all i one → SeriesGive moment [] (map f (take i all)) between
    → IfFault (IsSeriesFault moment i between (f one)) refused → IfFault (IsFaultOfSeries moment (map f all)) refused
first_fault f moment all i one between refused inside is gives h =
    IfFault-weaker {P = IsSeriesFault moment i between (f one)} {Q = IsFaultOfSeries moment (map f all)} refused
    (λ wrong fault. (
      map f (take i all),
      f one,
      map f (drop (suc i) all),
      between,
      map-cut f all i one one inside is,
      gives,
      subst (λ place. IsSeriesFault moment place between (f one) wrong) (sym (map-place f all i inside)) fault,
    ))
    h

-- ---- the push

of_push : (body : List ℕ) (moment : ℕ) (value : Data) (series : List Series) → IsReadObject body (Ok value) → push_in value ≡ Some series
    → (wrong : PushFault) → IsFaultOfSeries moment series wrong → IsPushFault body moment wrong
of_push body moment value series object shape NotObject h = absurd h.6.8
of_push body moment value series object shape (Shape i j) h = absurd h.6.8
of_push body moment value series object shape wrong h = (value, series, object, shape, h)

pub push_fault : (tenant body : List ℕ) (moment : ℕ) (value : Data) (series : List Series) (refused : Refused PushFault)
    → IsReadObject body (Ok value) → push_in value ≡ Some series → IfFault (IsFaultOfSeries moment series) refused
    → IfAnswered (IsAnswer tenant body moment) (Err refused)
push_fault tenant body moment value series (Fault wrong) object shape h = of_push body moment value series object shape wrong h
push_fault tenant body moment value series Memory object shape h = tt
