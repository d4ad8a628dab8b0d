-- Parameters say one form, or have one first fault.
use Rattle.std.proofs.Common.{◌≡◌, ◌==◌, ⊎_elim, ℕ, not, List, [], ◌∷◌, ◌++◌, Option, Some, None, Ok, Err, refl, sym, ap, ◌∙◌, subst, codes}
use Rattle.std.specs.Prelude.{IsTrue, MatchOption}
use Rattle.std.specs.List.{list_all}
use Rattle.std.specs.Cmp.{first_so, second_so}
use Rattle.std.proofs.Props.{props}
use Rattle.std.proofs.lemmas.Bool.{eq-eqb, true≢false}
use Rattle.std.proofs.lemmas.List.{append_cancel_right}
use Rattle.std.proofs.lemmas.List.Elements.{recursion_from_All}
use Rattle.std.proofs.lemmas.Option.{none-some}
use Rattle.profile_model.specs.Breaks.{BreaksAt}
use Rattle.profile_model.specs.Kinds.{IsPart}
use Rattle.profile_model.specs.LabelSets.{AreProfileLabels, Label}
use Rattle.profile_model.specs.ReadLabels.{IsReadLabels}
use Rattle.profile_model.specs.Series.{kind_name, own_labels}
use Rattle.profile_model.specs.declared.labels.LabelFault.{LabelFault}
use Rattle.profile_model.proofs.BreakLemmas.{breaks_once}
use Rattle.profile_model.proofs.ReadLabelLemmas.{fault_once, read_not_fault, read_once}
use Rattle.query_parameters.specs.Parameters.{value_of}
use Rattle.query_parameters.specs.SeriesNames.{IsName, IsPair, IsSeriesName, pairs_text}
use Rattle.query_parameters.specs.SeriesScan.{split_pairs}
use Rattle.query_parameters.specs.Times.{time_of}
use Rattle.query_parameters.proofs.SplitNameLemmas.{pairs_split}
use Rattle.ingest.specs.Forms.{HasLabels, HasTime, IsForm, IsFormFault, IsLabelled, IsNameFault, IsNoTime, IsSeries, Parameters, format_of}
use Rattle.ingest.specs.declared.form.Form.{Form}
use Rattle.ingest.specs.declared.fault.IngestFault.{IngestFault}
use Rattle.ingest.specs.declared.fault.IngestFault.TheVariants as told
use mathlib.Core.HLevel.{is_prop→PathP}

some_once : {X : Type 0} (o : Option X) (x y : X) → o ≡ Some x → o ≡ Some y → x ≡ y
some_once o x y h k = let same : Some x ≡ Some y = sym h ∙ k in cc

not_both : {X : Type 0} (o : Option X) (x : X) → o ≡ None → o ≡ Some x → ⊥
not_both o x none some = none-some x (sym none ∙ some)

-- ---- the name of a series

-- bytes without an opening brace
abbrev IsPlain : List ℕ → Type 0
IsPlain bytes = IsTrue (list_all (λ b. not (b == 123)) bytes)

plain_head : (b : ℕ) (bytes : List ℕ) → IsPlain (b ∷ bytes) → b ≡ 123 → ⊥
plain_head b bytes plain is =
    true≢false (sym (first_so (not (b == 123)) (list_all (λ c. not (c == 123)) bytes) plain) ∙ ap not (eq-eqb b 123 is))

plain_tail : (b : ℕ) (bytes : List ℕ) → IsPlain (b ∷ bytes) → IsPlain bytes
plain_tail b bytes plain = second_so (not (b == 123)) (list_all (λ c. not (c == 123)) bytes) plain

plain_not_cut : (bytes front back : List ℕ) → bytes ≡ front ++ 123 ∷ back → IsPlain bytes → ⊥
plain_not_cut [] [] back same plain = absurd cc
plain_not_cut [] (x ∷ front) back same plain = absurd cc
plain_not_cut (b ∷ bytes) [] back same plain = plain_head b bytes plain (let one : b ≡ 123 = cc in one)
plain_not_cut (b ∷ bytes) (x ∷ front) back same plain =
    plain_not_cut bytes front back (let rest : bytes ≡ front ++ 123 ∷ back = cc in rest) (plain_tail b bytes plain)

cut_once : (front back other rest : List ℕ) → front ++ 123 ∷ back ≡ other ++ 123 ∷ rest → IsPlain front → IsPlain other → (front ≡ other) × (back ≡ rest)
cut_once [] back [] rest same plain plain' = let behind : back ≡ rest = cc in (refl, behind)
cut_once [] back (y ∷ other) rest same plain plain' = absurd (plain_head y other plain' (let one : y ≡ 123 = cc in one))
cut_once (x ∷ front) back [] rest same plain plain' = absurd (plain_head x front plain (let one : x ≡ 123 = cc in one))
cut_once (x ∷ front) back (y ∷ other) rest same plain plain' =
    let one : x ≡ y = cc in
    let behind : front ++ 123 ∷ back ≡ other ++ 123 ∷ rest = cc in
    let more = cut_once front back other rest behind (plain_tail x front plain) (plain_tail y other plain') in
    ((λ i. one i ∷ more.0 i), more.1)

name_once : (text service other : List ℕ) (pairs others : List Label) → IsSeriesName text service pairs → IsSeriesName text other others
    → (service ≡ other) × (pairs ≡ others)
name_once text service other pairs others h k =
    ⊎_elim
    (λ alone. ⊎_elim (λ alone'. (sym alone.0 ∙ alone'.0, alone.1 ∙ sym alone'.1))
    (λ whole'. absurd (plain_not_cut service other (pairs_text others ++ 125 ∷ []) (sym alone.0 ∙ whole') h.service_is.plain)) k.text_is)
    (λ whole. ⊎_elim (λ alone'. absurd (plain_not_cut other service (pairs_text pairs ++ 125 ∷ []) (sym alone'.0 ∙ whole) k.service_is.plain))
    (λ whole'.
    let cut = cut_once service (pairs_text pairs ++ 125 ∷ []) other (pairs_text others ++ 125 ∷ []) (sym whole ∙ whole') h.service_is.plain k.service_is.plain in
    let texts = append_cancel_right (pairs_text pairs) (pairs_text others) (125 ∷ []) cut.1 in (
      cut.0,
      sym (pairs_split pairs (recursion_from_All IsPair pairs h.pairs_are)) ∙ ap split_pairs texts ∙ pairs_split others (recursion_from_All IsPair others k.pairs_are),
    ))
    k.text_is)
    h.text_is

-- ---- what each parameter says

name_fault_once : (o : Option (List ℕ)) (at other : ℕ) → MatchOption o (at ≡ 0) (λ text. (¬ (IsName text)) × BreaksAt IsName text at)
    → MatchOption o (other ≡ 0) (λ text. (¬ (IsName text)) × BreaksAt IsName text other) → at ≡ other
name_fault_once None at other h k = h ∙ sym k
name_fault_once (Some text) at other h k = breaks_once IsName text at other h.1 k.1

time_once : (o : Option (List ℕ)) (moment ms other : ℕ) → MatchOption o (ms ≡ moment) (λ text. time_of text moment ≡ Some ms)
    → MatchOption o (other ≡ moment) (λ text. time_of text moment ≡ Some other) → ms ≡ other
time_once None moment ms other h k = h ∙ sym k
time_once (Some text) moment ms other h k = some_once (time_of text moment) ms other h k

time_not_wrong : (o : Option (List ℕ)) (moment ms : ℕ) → MatchOption o (ms ≡ moment) (λ text. time_of text moment ≡ Some ms)
    → MatchOption o ⊥ (λ text. time_of text moment ≡ None) → ⊥
time_not_wrong None moment ms h wrong = wrong
time_not_wrong (Some text) moment ms h wrong = not_both (time_of text moment) ms wrong h

-- the labels' first fault
abbrev IsLabelFault : Parameters → LabelFault → Type 0
IsLabelFault parameters wrong = (pairs : List Label) × IsSeries parameters pairs × IsReadLabels pairs (Err wrong)

module _ (parameters : Parameters) where
  series_once : (pairs others : List Label) → IsSeries parameters pairs → IsSeries parameters others → pairs ≡ others
  series_once pairs others h k =
      let text = some_once (value_of parameters (codes "name")) h.text k.text h.there k.there in
      let named : IsSeriesName k.text h.service h.rest = subst (λ t. IsSeriesName t h.service h.rest) text h.named in
      let parts = name_once k.text h.service k.service h.rest k.rest named k.named in
      h.first ∙ (λ i. (codes "service_name", parts.0 i) ∷ parts.1 i) ∙ sym k.first

  labelled_once : (labels others : List Label) → IsLabelled parameters labels → IsLabelled parameters others → labels ≡ others
  labelled_once labels others h k =
      read_once k.pairs labels others (subst (λ pairs. IsReadLabels pairs (Ok labels)) (series_once h.pairs k.pairs h.series k.series) h.made) k.made

  name_not_series : (at : ℕ) (pairs : List Label) → IsNameFault parameters at → IsSeries parameters pairs → ⊥
  name_not_series at pairs h k =
      let wrong : (¬ (IsName k.text)) × BreaksAt IsName k.text at = subst (λ o. MatchOption o (at ≡ 0) (λ text. (¬ (IsName text)) × BreaksAt IsName text at)) k.there h in
      wrong.0 (k.service, k.rest, k.named)

  name_not_labelled : (at : ℕ) → IsNameFault parameters at → HasLabels parameters → ⊥
  name_not_labelled at h k = name_not_series at k.1.pairs h k.1.series

  label_not_labelled : (wrong : LabelFault) → IsLabelFault parameters wrong → HasLabels parameters → ⊥
  label_not_labelled wrong h k =
      read_not_fault h.0 k.0 wrong (subst (λ pairs. IsReadLabels pairs (Ok k.0)) (series_once k.1.pairs h.0 k.1.series h.1) k.1.made) h.2

  label_fault_once : (wrong other : LabelFault) → IsLabelFault parameters wrong → IsLabelFault parameters other → wrong ≡ other
  label_fault_once wrong other h k =
      fault_once k.0 wrong other (subst (λ pairs. IsReadLabels pairs (Err wrong)) (series_once h.0 k.0 h.1 k.1) h.2) k.2

  -- ---- the form, or the first fault

  module _ (moment : ℕ) where
    pub form_once : (form other : Form) → IsForm parameters moment form → IsForm parameters moment other → form ≡ other
    form_once form other h k =
        let all = labelled_once h.labels k.labels h.labelled k.labelled in
        let labels : form.labels ≡ other.labels = h.own ∙ ap own_labels all ∙ sym k.own in
        let name : form.name ≡ other.name = h.name ∙ ap kind_name all ∙ sym k.name in
        let units : form.units ≡ other.units = h.units ∙ sym k.units in
        let time = time_once (value_of parameters (codes "from")) moment form.time_ms other.time_ms h.time k.time in
        let format = some_once (format_of (value_of parameters (codes "format"))) form.format other.format h.format k.format in
        λ i. record {
          labels = labels i;
          name = name i;
          units = units i;
          time_ms = time i;
          format = format i;
          labelled = is_prop→PathP (λ j. AreProfileLabels (labels j)) (λ j. hlevel props) form.labelled other.labelled i;
          parts = is_prop→PathP (λ j. IsPart (name j) × IsPart (units j)) (λ j. hlevel props) form.parts other.parts i;
        }

    has_labels : (form : Form) → IsForm parameters moment form → HasLabels parameters
    has_labels form h = (h.labels, h.labelled)

    time_not_absent : HasTime parameters moment → IsNoTime parameters moment → ⊥
    time_not_absent h wrong = time_not_wrong (value_of parameters (codes "from")) moment h.1.0 h.1.1 wrong

    pub form_not_fault : (form : Form) (fault : IngestFault) → IsForm parameters moment form → IsFormFault parameters moment fault → ⊥
    form_not_fault form (told.Name at) h k = name_not_labelled at k (has_labels form h)
    form_not_fault form (told.Label wrong) h k = label_not_labelled wrong k (has_labels form h)
    form_not_fault form told.From h k = time_not_absent (has_labels form h, (form.time_ms, h.time)) k.1
    form_not_fault form told.Format h k = not_both (format_of (value_of parameters (codes "format"))) form.format k.1 h.format
    form_not_fault form fault h k = k

    pub form_fault_once : (fault other : IngestFault) → IsFormFault parameters moment fault → IsFormFault parameters moment other → fault ≡ other
    form_fault_once (told.Name at) (told.Name n) h k = ap told.Name (name_fault_once (value_of parameters (codes "name")) at n h k)
    form_fault_once (told.Name at) (told.Label wrong) h k = absurd (name_not_series at k.0 h k.1)
    form_fault_once (told.Name at) told.From h k = absurd (name_not_labelled at h k.0)
    form_fault_once (told.Name at) told.Format h k = absurd (name_not_labelled at h k.0.0)
    form_fault_once (told.Name at) other h k = absurd k
    form_fault_once (told.Label wrong) (told.Name n) h k = absurd (name_not_series n h.0 k h.1)
    form_fault_once (told.Label wrong) (told.Label again) h k = ap told.Label (label_fault_once wrong again h k)
    form_fault_once (told.Label wrong) told.From h k = absurd (label_not_labelled wrong h k.0)
    form_fault_once (told.Label wrong) told.Format h k = absurd (label_not_labelled wrong h k.0.0)
    form_fault_once (told.Label wrong) other h k = absurd k
    form_fault_once told.From (told.Name n) h k = absurd (name_not_labelled n k h.0)
    form_fault_once told.From (told.Label wrong) h k = absurd (label_not_labelled wrong k h.0)
    form_fault_once told.From told.From h k = refl
    form_fault_once told.From told.Format h k = absurd (time_not_absent k.0 h.1)
    form_fault_once told.From other h k = absurd k
    form_fault_once told.Format (told.Name n) h k = absurd (name_not_labelled n k h.0.0)
    form_fault_once told.Format (told.Label wrong) h k = absurd (label_not_labelled wrong k h.0.0)
    form_fault_once told.Format told.From h k = absurd (time_not_absent h.0 k.1)
    form_fault_once told.Format told.Format h k = refl
    form_fault_once told.Format other h k = absurd k
    form_fault_once fault other h k = absurd h
