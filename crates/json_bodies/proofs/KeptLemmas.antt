-- The fields of a body once a member is put to those before.
use Rattle.std.proofs.Common.{◌≡◌, ℕ, List, [], length, codes, string_bytes, Some, sym, ap, subst, ◌∙◌}
use Rattle.std.specs.Option.{option_map, unwrap_or}
use Rattle.serde_json.specs.Data.{Data, Members, null, object, put}
use Rattle.serde_json.specs.Find.{as_str}
use Rattle.serde_json.specs.Read.{read}
use Rattle.json_bodies.specs.Fields.{as_list, as_number_or_text, as_texts, number_in, said, text_in, texts_in}
use Rattle.json_bodies.specs.Pushes.{members_in}
use Rattle.json_bodies.specs.KeptFields.{AreFields, value_of}
use Rattle.json_bodies.specs.KeptSeries.{IsKeptPush}
use Rattle.json_bodies.specs.declared.kept.Fields.{Fields}
use Rattle.json_bodies.proofs.FoundLemmas.{get_here, get_other}

-- a key is no other of another length
pub another_key : (k l m : List ℕ) → k ≡ l → ¬ (length l ≡ length m) → ¬ (k ≡ m)
another_key k l m here apart e = apart (ap length (sym here ∙ e))

module _ (k : List ℕ) (d : Data) (found : Members) where
  pub name_here : k ≡ codes "name" → text_in (codes "name") (object (put k d found)) ≡ as_str d
  name_here here = ap (said as_str []) (get_here k (codes "name") d found here)

  pub matchers_here : k ≡ codes "matchers" → texts_in (codes "matchers") (object (put k d found)) ≡ as_texts d
  matchers_here here = ap (said as_texts []) (get_here k (codes "matchers") d found here)

  pub label_names_here : k ≡ codes "labelNames" → texts_in (codes "labelNames") (object (put k d found)) ≡ as_texts d
  label_names_here here = ap (said as_texts []) (get_here k (codes "labelNames") d found here)

  pub start_here : k ≡ codes "start" → number_in (codes "start") (object (put k d found)) ≡ as_number_or_text d
  start_here here = ap (said as_number_or_text 0) (get_here k (codes "start") d found here)

  pub end_here : k ≡ codes "end" → number_in (codes "end") (object (put k d found)) ≡ as_number_or_text d
  end_here here = ap (said as_number_or_text 0) (get_here k (codes "end") d found here)

  pub series_here : k ≡ codes "series" → members_in (object (put k d found)) ≡ as_list d
  series_here here = ap (said as_list []) (get_here k (codes "series") d found here)

  module _ (fields : Fields) (are : AreFields (object found) fields) where
    pub name_stays : ¬ (k ≡ codes "name") → text_in (codes "name") (object (put k d found)) ≡ option_map string_bytes fields.name
    name_stays apart = ap (said as_str []) (get_other k (codes "name") d found apart) ∙ are.name

    pub matchers_stay : ¬ (k ≡ codes "matchers") → texts_in (codes "matchers") (object (put k d found)) ≡ fields.matchers
    matchers_stay apart = ap (said as_texts []) (get_other k (codes "matchers") d found apart) ∙ are.matchers

    pub label_names_stay : ¬ (k ≡ codes "labelNames") → texts_in (codes "labelNames") (object (put k d found)) ≡ fields.label_names
    label_names_stay apart = ap (said as_texts []) (get_other k (codes "labelNames") d found apart) ∙ are.label_names

    pub start_stays : ¬ (k ≡ codes "start") → number_in (codes "start") (object (put k d found)) ≡ fields.start
    start_stays apart = ap (said as_number_or_text 0) (get_other k (codes "start") d found apart) ∙ are.start

    pub end_stays : ¬ (k ≡ codes "end") → number_in (codes "end") (object (put k d found)) ≡ fields.end
    end_stays apart = ap (said as_number_or_text 0) (get_other k (codes "end") d found apart) ∙ are.end

    pub series_stay : ¬ (k ≡ codes "series") → IsKeptPush (members_in (object (put k d found))) fields.series
    series_stay apart =
        subst (λ o. IsKeptPush (said as_list [] o) fields.series) (sym (get_other k (codes "series") d found apart)) are.series

-- ---- the value of a body

pub value_is : (body : List ℕ) (d : Data) → read body ≡ Some d → value_of body ≡ d
unfolding value_of
value_is body d e = ap (λ o. unwrap_or o null) e
