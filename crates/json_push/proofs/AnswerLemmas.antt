-- A body has one answer.
use Rattle.std.proofs.Common.{◌≡◌, ◌⊎◌, ⊎_elim, inl, inr, ℕ, List, [], Option, Some, None, Result, Ok, Err, refl, sym, ap, ◌∙◌, subst}
use Rattle.std.specs.Prelude.{IsSome, IsSomeAnd, MatchOption, slice_get}
use Rattle.std.proofs.lemmas.Bool.{true≢false}
use Rattle.std.proofs.lemmas.Option.{none-some}
use Rattle.serde_json.specs.Data.{Data, Members, null, boolean, number, string, array, object}
use Rattle.serde_json.specs.Find.{as_object}
use Rattle.serde_json.specs.Read.{read}
use Rattle.json_bodies.specs.Objects.{IsReadObject}
use Rattle.json_bodies.specs.Pushes.{first_silent, members_in, push_in, series_in, silent_sample}
use Rattle.json_bodies.specs.PushFaults.{IsFaultOfMembers, IsShapeFault}
use Rattle.json_bodies.specs.declared.object.JsonFault.TheVariants.{NotObject as no_object}
use Rattle.json_bodies.specs.declared.push.ShapeFault.TheVariants.{Wrong as wrong_shape}
use Rattle.json_bodies.proofs.ExclusionLemmas.{no_push}
use Rattle.profile_model.specs.declared.profile.Profile.{Profile}
use Rattle.profile_model.specs.declared.push.Push.{Push}
use Rattle.json_push.specs.Laws.{IsAnswer}
use Rattle.json_push.specs.Pushed.{IsFaultOfSeries, IsPushFault, SaysPushed, Series, SeriesGive}
use Rattle.json_push.specs.declared.fault.PushFault.{PushFault}
use Rattle.json_push.specs.declared.fault.PushFault.TheVariants.{NotObject, Shape}
use Rattle.json_push.proofs.SeriesAnswers.{fault_of_series_once, give_not_fault, series_once}

some_once : {X : Type 0} (o : Option X) (x y : X) → o ≡ Some x → o ≡ Some y → x ≡ y
some_once o x y h k = let same : Some x ≡ Some y = sym h ∙ k in cc

-- ---- the object and its shape

is_object : (value : Data) → IsSome (as_object value) → (members : Members) × (value ≡ object members)
is_object null is = absurd (true≢false (sym is))
is_object (boolean b) is = absurd (true≢false (sym is))
is_object (number n) is = absurd (true≢false (sym is))
is_object (string s) is = absurd (true≢false (sym is))
is_object (array items) is = absurd (true≢false (sym is))
is_object (object members) is = (members, refl)

module _ (body : List ℕ) where
  value_once : (value other : Data) → IsReadObject body (Ok value) → IsReadObject body (Ok other) → value ≡ other
  value_once value other h k = some_once (read body) value other h.0.text k.0.text

  value_not_none : (value : Data) → IsReadObject body (Ok value) → IsReadObject body (Err no_object) → ⊥
  value_not_none value h k =
      let one = is_object value h.1 in k one.0 (record { utf8 = h.0.utf8; text = h.0.text ∙ ap Some one.1 })

silent_once : (o : Option Data) (sample other : ℕ) → IsSomeAnd o (λ one. silent_sample one ≡ Some sample) → IsSomeAnd o (λ one. silent_sample one ≡ Some other) → sample ≡ other
silent_once None sample other h k = absurd h
silent_once (Some one) sample other h k = some_once (silent_sample one) sample other h k

members_once : (members : Option (List Data)) (series sample series' sample' : ℕ)
    → MatchOption members ((series ≡ 0) × (sample ≡ 0)) (λ found. IsFaultOfMembers found (wrong_shape series sample))
    → MatchOption members ((series' ≡ 0) × (sample' ≡ 0)) (λ found. IsFaultOfMembers found (wrong_shape series' sample'))
    → (series ≡ series') × (sample ≡ sample')
members_once None series sample series' sample' h k = (h.0 ∙ sym k.0, h.1 ∙ sym k.1)
members_once (Some members) series sample series' sample' h k =
    let one = some_once (first_silent series_in members) series series' h.0 k.0 in (
      one,
      silent_once (slice_get members series') sample sample' (subst (λ n. IsSomeAnd (slice_get members n) (λ found. silent_sample found ≡ Some sample)) one h.1) k.1,
    )

-- ---- the kinds of faults

module _ (body : List ℕ) (moment : ℕ) where
  record IsWrongShape (wrong : PushFault) : Type 0 where
    series : ℕ
    sample : ℕ
    is : wrong ≡ Shape series sample
    value : Data
    object_is : IsReadObject body (Ok value)
    fault : IsShapeFault value (wrong_shape series sample)

  record IsWrongSeries (wrong : PushFault) : Type 0 where
    value : Data
    series : List Series
    object_is : IsReadObject body (Ok value)
    shape : push_in value ≡ Some series
    fault : IsFaultOfSeries moment series wrong

  abbrev IsNoObjectFault : PushFault → Type 0
  IsNoObjectFault wrong = (wrong ≡ NotObject) × IsReadObject body (Err no_object)

  kind_of : (wrong : PushFault) → IsPushFault body moment wrong → IsNoObjectFault wrong ⊎ (IsWrongShape wrong ⊎ IsWrongSeries wrong)
  kind_of NotObject h = inl (refl, h)
  kind_of (Shape series sample) h = inr (inl (record { series = series; sample = sample; is = refl; value = h.0; object_is = h.1; fault = h.2 }))
  kind_of wrong h = inr (inr (record { value = h.0; series = h.1; object_is = h.2; shape = h.3; fault = h.4 }))

  shape_once : (wrong other : PushFault) → IsWrongShape wrong → IsWrongShape other → wrong ≡ other
  shape_once wrong other h k =
      let fault = subst (λ value. IsShapeFault value (wrong_shape h.series h.sample)) (value_once body h.value k.value h.object_is k.object_is) h.fault in
      let same = members_once (members_in k.value) h.series h.sample k.series k.sample fault k.fault in
      h.is ∙ (λ n. Shape (same.0 n) (same.1 n)) ∙ sym k.is

  -- a value of another shape says no series
  shape_not_series : (wrong : PushFault) (value : Data) (series : List Series) → IsWrongShape wrong → IsReadObject body (Ok value) → push_in value ≡ Some series → ⊥
  shape_not_series wrong value series h k shape =
      none-some series (sym (no_push h.value h.series h.sample h.fault) ∙ ap push_in (value_once body h.value value h.object_is k) ∙ shape)

  series_same : (value other : Data) (series others : List Series) → IsReadObject body (Ok value) → IsReadObject body (Ok other)
      → push_in value ≡ Some series → push_in other ≡ Some others → series ≡ others
  series_same value other series others h k shape shape' =
      some_once (push_in other) series others (ap push_in (sym (value_once body value other h k)) ∙ shape) shape'

  wrong_series_once : (wrong other : PushFault) → IsWrongSeries wrong → IsWrongSeries other → wrong ≡ other
  wrong_series_once wrong other h k =
      fault_of_series_once moment k.series wrong other
      (subst (λ series. IsFaultOfSeries moment series wrong) (series_same h.value k.value h.series k.series h.object_is k.object_is h.shape k.shape) h.fault) k.fault

  push_fault_once : (wrong other : PushFault) → IsPushFault body moment wrong → IsPushFault body moment other → wrong ≡ other
  push_fault_once wrong other h k =
      ⊎_elim
      (λ none. ⊎_elim (λ none'. none.0 ∙ sym none'.0)
      (λ some'. ⊎_elim (λ shape'. absurd (value_not_none body shape'.value shape'.object_is none.1)) (λ series'. absurd (value_not_none body series'.value series'.object_is none.1)) some')
      (kind_of other k))
      (λ some. ⊎_elim
      (λ shape. ⊎_elim (λ none'. absurd (value_not_none body shape.value shape.object_is none'.1))
      (λ some'. ⊎_elim (λ shape'. shape_once wrong other shape shape') (λ series'. absurd (shape_not_series wrong series'.value series'.series shape series'.object_is series'.shape)) some')
      (kind_of other k))
      (λ series. ⊎_elim (λ none'. absurd (value_not_none body series.value series.object_is none'.1))
      (λ some'. ⊎_elim (λ shape'. absurd (shape_not_series other series.value series.series shape' series.object_is series.shape)) (λ series'. wrong_series_once wrong other series series') some')
      (kind_of other k))
      some)
      (kind_of wrong h)

  said_once : (profiles others : List Profile) → SaysPushed body moment profiles → SaysPushed body moment others → profiles ≡ others
  said_once profiles others h k =
      series_once moment [] k.series profiles others
      (subst (λ series. SeriesGive moment [] series profiles) (series_same h.value k.value h.series k.series h.object k.object h.shape k.shape) h.gives) k.gives

  said_not_fault : (profiles : List Profile) (wrong : PushFault) → SaysPushed body moment profiles → IsPushFault body moment wrong → ⊥
  said_not_fault profiles wrong h k =
      ⊎_elim (λ none. value_not_none body h.value h.object none.1)
      (λ some. ⊎_elim (λ shape. shape_not_series wrong h.value h.series shape h.object h.shape)
      (λ series. give_not_fault moment series.series profiles wrong
      (subst (λ all. SeriesGive moment [] all profiles) (series_same h.value series.value h.series series.series h.object series.object_is h.shape series.shape) h.gives)
      series.fault)
      some)
      (kind_of wrong k)

  pub one_answer : (tenant : List ℕ) (first second : Result Push PushFault) → IsAnswer tenant body moment first → IsAnswer tenant body moment second → first ≡ second
  one_answer tenant (Ok push) (Ok other) h k =
      let own = h.0 ∙ sym k.0 in
      let profiles = said_once push.profiles other.profiles h.1 k.1 in
      λ i. Ok (record { tenant = own i; profiles = profiles i })
  one_answer tenant (Ok push) (Err wrong) h k = absurd (said_not_fault push.profiles wrong h.1 k)
  one_answer tenant (Err wrong) (Ok push) h k = absurd (said_not_fault push.profiles wrong k.1 h)
  one_answer tenant (Err wrong) (Err other) h k = ap Err (push_fault_once wrong other h k)
