-- Series give one list of profiles, or have one first fault.
use Rattle.std.proofs.Common.{◌≡◌, ◌⊎◌, ⊎_elim, inl, inr, ℕ, suc, ◌+◌, List, [], ◌∷◌, ◌++◌, length, Err, refl, sym, ap, ◌∙◌, subst, arith}
use Rattle.pprof_codec.specs.declared.base.Base.{Base}
use Rattle.pprof_codec.proofs.AnswerLemmas.{base_once}
use Rattle.profile_model.proofs.ReadLabelLemmas.{fault_once, read_not_fault, read_once}
use Rattle.profile_model.specs.LabelSets.{Label as Pair}
use Rattle.profile_model.specs.ReadLabels.{IsReadLabels}
use Rattle.profile_model.specs.Series.{kind_name, own_labels}
use Rattle.profile_model.specs.declared.labels.LabelFault.{LabelFault}
use Rattle.profile_model.specs.declared.profile.Profile.{Profile}
use Rattle.json_push.specs.Pushed.{IsBaseOf, IsFaultOfSeries, IsSampleFault, IsSeriesFault, SamplesGive, Series, SeriesGive, with_service}
use Rattle.json_push.specs.declared.fault.PushFault.{PushFault}
use Rattle.json_push.specs.declared.fault.PushFault.TheVariants.{Label}
use Rattle.json_push.proofs.SampleAnswers.{IsFault, samples_fault_once, samples_not_fault, samples_once}

-- ---- one series

module _ (moment : ℕ) where
  based_once : (pairs : List Pair) (base other : Base) → IsBaseOf moment pairs base → IsBaseOf moment pairs other → base ≡ other
  based_once pairs base other h k =
      let labels = read_once pairs h.labels k.labels h.read k.read in
      base_once base other (h.own ∙ ap (λ all. with_service (own_labels all)) labels ∙ sym k.own) (h.name ∙ ap kind_name labels ∙ sym k.name) (h.time ∙ sym k.time)

  -- the first fault of a series is its labels'
  record IsOfLabels (i : ℕ) (one : Series) (wrong : PushFault) : Type 0 where
    fault : LabelFault
    is : wrong ≡ Label i fault
    read : IsReadLabels one.0 (Err fault)

  -- it is that of its first sample that has one
  record IsOfSamples (i : ℕ) (before : List Profile) (one : Series) (wrong : PushFault) : Type 0 where
    base : Base
    first : List (List ℕ)
    based : IsBaseOf moment one.0 base
    found : IsFault i 0 base before one.1 first wrong

  of_samples : (i : ℕ) (before : List Profile) (one : Series) (wrong : PushFault) (base : Base) (first : List (List ℕ)) (raw : List ℕ) (last : List (List ℕ)) (between : List Profile)
      → IsBaseOf moment one.0 base → one.1 ≡ first ++ raw ∷ last → SamplesGive base before first between → IsSampleFault i (length first) base between raw wrong
      → IsOfSamples i before one wrong
  of_samples i before one wrong base first raw last between based cut gives here = record {
    base = base;
    first = first;
    based = based;
    found = record { raw = raw; last = last; between = between; cut = cut; gives = gives; place = length first; at = omega arith; here = here };
  }

  parted : (i : ℕ) (before : List Profile) (one : Series) (wrong : PushFault) → IsSeriesFault moment i before one wrong
      → IsOfLabels i one wrong ⊎ IsOfSamples i before one wrong
  parted i before one (Label series fault) h = inl (record { fault = fault; is = ap (λ n. Label n fault) h.0; read = h.1 })
  parted i before one wrong h = inr (of_samples i before one wrong h.0 h.1 h.2 h.3 h.4 h.5 h.6 h.7 h.8)

  based_not_label_fault : (i : ℕ) (one : Series) (base : Base) (wrong : PushFault) → IsBaseOf moment one.0 base → IsOfLabels i one wrong → ⊥
  based_not_label_fault i one base wrong h k = read_not_fault one.0 h.labels k.fault h.read k.read

  samples_parted_once : (i : ℕ) (before : List Profile) (one : Series) (wrong other : PushFault) → IsOfSamples i before one wrong → IsOfSamples i before one other → wrong ≡ other
  samples_parted_once i before one wrong other h k =
      samples_fault_once i 0 k.base before one.1 h.first k.first wrong other
      (subst (λ base. IsFault i 0 base before one.1 h.first wrong) (based_once one.0 h.base k.base h.based k.based) h.found) k.found

  series_fault_once : (i : ℕ) (before : List Profile) (one : Series) (wrong other : PushFault) → IsSeriesFault moment i before one wrong → IsSeriesFault moment i before one other
      → wrong ≡ other
  series_fault_once i before one wrong other h k =
      ⊎_elim
      (λ labels. ⊎_elim
      (λ labels'. labels.is ∙ ap (Label i) (fault_once one.0 labels.fault labels'.fault labels.read labels'.read) ∙ sym labels'.is)
      (λ samples'. absurd (based_not_label_fault i one samples'.base wrong samples'.based labels)) (parted i before one other k))
      (λ samples. ⊎_elim (λ labels'. absurd (based_not_label_fault i one samples.base other samples.based labels'))
      (λ samples'. samples_parted_once i before one wrong other samples samples') (parted i before one other k))
      (parted i before one wrong h)

  series_not_fault : (i : ℕ) (before after : List Profile) (one : Series) (base : Base) (wrong : PushFault) → IsBaseOf moment one.0 base → SamplesGive base before one.1 after
      → IsSeriesFault moment i before one wrong → ⊥
  series_not_fault i before after one base wrong based gives k =
      ⊎_elim (λ labels. based_not_label_fault i one base wrong based labels)
      (λ samples.
      let same = based_once one.0 base samples.base based samples.based in
      samples_not_fault i samples.found.place samples.base before samples.first samples.found.raw samples.found.last samples.found.between after wrong
      (subst (λ raws. SamplesGive samples.base before raws after) samples.found.cut (subst (λ known. SamplesGive known before one.1 after) same gives))
      samples.found.gives samples.found.here)
      (parted i before one wrong k)

  -- ---- all series

  between_once : (before : List Profile) (one : Series) (base other : Base) (after again : List Profile) → IsBaseOf moment one.0 base → IsBaseOf moment one.0 other
      → SamplesGive base before one.1 after → SamplesGive other before one.1 again → after ≡ again
  between_once before one base other after again h k gives gives' =
      samples_once other before one.1 after again (subst (λ known. SamplesGive known before one.1 after) (based_once one.0 base other h k) gives) gives'

  pub series_once : (before : List Profile) (all : List Series) (after other : List Profile) → SeriesGive moment before all after → SeriesGive moment before all other → after ≡ other
  series_once before [] after other h k = h ∙ sym k
  series_once before (one ∷ all) after other h k =
      let same = between_once before one h.0 k.0 h.1 k.1 h.2 k.2 h.3 k.3 in
      series_once k.1 all after other (subst (λ known. SeriesGive moment known all after) same h.4) k.4

  -- series that give profiles have no fault among them
  all_not_fault : (place : ℕ) (before : List Profile) (first : List Series) (one : Series) (last : List Series) (between after : List Profile) (wrong : PushFault)
      → SeriesGive moment before (first ++ one ∷ last) after → SeriesGive moment before first between → IsSeriesFault moment place between one wrong → ⊥
  all_not_fault place before [] one last between after wrong all none here =
      series_not_fault place before all.1 one all.0 wrong all.2 all.3 (subst (λ known. IsSeriesFault moment place known one wrong) none here)
  all_not_fault place before (x ∷ first) one last between after wrong all earlier here =
      let same = between_once before x earlier.0 all.0 earlier.1 all.1 earlier.2 all.2 earlier.3 all.3 in
      all_not_fault place all.1 first one last between after wrong all.4 (subst (λ known. SeriesGive moment known first between) same earlier.4) here

  -- the first fault of the series from number j on
  record IsFirst (j : ℕ) (before : List Profile) (all first : List Series) (wrong : PushFault) : Type 0 where
    one : Series
    last : List Series
    between : List Profile
    cut : all ≡ first ++ one ∷ last
    gives : SeriesGive moment before first between
    place : ℕ
    at : place ≡ j + length first
    here : IsSeriesFault moment place between one wrong

  first_at_once : (j : ℕ) (before : List Profile) (all : List Series) (wrong other : PushFault) → IsFirst j before all [] wrong → IsFirst j before all [] other → wrong ≡ other
  first_at_once j before all wrong other h k =
      let same = sym h.cut ∙ k.cut in
      let one : h.one ≡ k.one = cc in
      let place : h.place ≡ k.place = h.at ∙ sym k.at in
      series_fault_once k.place before k.one wrong other
      (subst (λ n. IsSeriesFault moment n before k.one wrong) place
      (subst (λ series. IsSeriesFault moment h.place before series wrong) one (subst (λ known. IsSeriesFault moment h.place known h.one wrong) h.gives h.here)))
      (subst (λ known. IsSeriesFault moment k.place known k.one other) k.gives k.here)

  first_not_later : (j : ℕ) (before : List Profile) (all : List Series) (x : Series) (first : List Series) (wrong other : PushFault)
      → IsFirst j before all [] wrong → IsFirst j before all (x ∷ first) other → ⊥
  first_not_later j before all x first wrong other h k =
      let same = sym h.cut ∙ k.cut in
      let one : h.one ≡ x = cc in
      series_not_fault h.place before k.gives.1 x k.gives.0 wrong k.gives.2 k.gives.3
      (subst (λ series. IsSeriesFault moment h.place before series wrong) one (subst (λ known. IsSeriesFault moment h.place known h.one wrong) h.gives h.here))

  -- the same fault, of the series behind the first
  behind : (j : ℕ) (before : List Profile) (x : Series) (all : List Series) (y : Series) (first : List Series) (wrong : PushFault) (profiles : List Profile)
      (h : IsFirst j before (x ∷ all) (y ∷ first) wrong) → h.gives.1 ≡ profiles → IsFirst (suc j) profiles all first wrong
  behind j before x all y first wrong profiles h same = record {
    one = h.one;
    last = h.last;
    between = h.between;
    cut = let whole = h.cut in let rest : all ≡ first ++ h.one ∷ h.last = cc in rest;
    gives = subst (λ known. SeriesGive moment known first h.between) same h.gives.4;
    place = h.place;
    at = let at = h.at in omega arith;
    here = h.here;
  }

  first_once : (j : ℕ) (before : List Profile) (all first second : List Series) (wrong other : PushFault) → IsFirst j before all first wrong → IsFirst j before all second other
      → wrong ≡ other
  first_once j before all [] [] wrong other h k = first_at_once j before all wrong other h k
  first_once j before all [] (y ∷ second) wrong other h k = absurd (first_not_later j before all y second wrong other h k)
  first_once j before all (x ∷ first) [] wrong other h k = absurd (first_not_later j before all x first other wrong k h)
  first_once j before [] (x ∷ first) (y ∷ second) wrong other h k = absurd (let whole = h.cut in cc)
  first_once j before (one ∷ all) (x ∷ first) (y ∷ second) wrong other h k =
      let whole = h.cut in
      let whole' = k.cut in
      let left : x ≡ one = cc in
      let right : y ≡ one = cc in
      let same = between_once before one h.gives.0 k.gives.0 h.gives.1 k.gives.1
      (subst (λ (series : Series). IsBaseOf moment series.0 h.gives.0) left h.gives.2) (subst (λ (series : Series). IsBaseOf moment series.0 k.gives.0) right k.gives.2)
      (subst (λ (series : Series). SamplesGive h.gives.0 before series.1 h.gives.1) left h.gives.3)
      (subst (λ (series : Series). SamplesGive k.gives.0 before series.1 k.gives.1) right k.gives.3) in
      first_once (suc j) k.gives.1 all first second wrong other (behind j before one all x first wrong k.gives.1 h same) (behind j before one all y second other k.gives.1 k refl)

  placed : (all : List Series) (wrong : PushFault) (h : IsFaultOfSeries moment all wrong) → IsFirst 0 [] all h.0 wrong
  placed all wrong h = record { one = h.1; last = h.2; between = h.3; cut = h.4; gives = h.5; place = length h.0; at = omega arith; here = h.6 }

  pub fault_of_series_once : (all : List Series) (wrong other : PushFault) → IsFaultOfSeries moment all wrong → IsFaultOfSeries moment all other → wrong ≡ other
  fault_of_series_once all wrong other h k = first_once 0 [] all h.0 k.0 wrong other (placed all wrong h) (placed all other k)

  pub give_not_fault : (all : List Series) (after : List Profile) (wrong : PushFault) → SeriesGive moment [] all after → IsFaultOfSeries moment all wrong → ⊥
  give_not_fault all after wrong gives h =
      all_not_fault (length h.0) [] h.0 h.1 h.2 h.3 after wrong (subst (λ series. SeriesGive moment [] series after) h.4 gives) h.5 h.6
