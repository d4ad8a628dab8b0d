-- What the bodies of the query methods that list labels say, and whether each field is of its kind,
-- in the order in which a method's fields are looked at.
use Rattle.std.specs.Prelude.{◌≡◌, Bool, List, [], ◌∷◌, map, codes, Some, option_map, is_some}
use Rattle.serde_json.specs.Data.{Data}
use Rattle.json_bodies.specs.Fields.{text_in, texts_in, number_in, end_of}
use Rattle.json_bodies.specs.declared.queries.LabelNamesBody.{LabelNamesBody}
use Rattle.json_bodies.specs.declared.queries.LabelValuesBody.{LabelValuesBody}
use Rattle.json_bodies.specs.declared.queries.SeriesBody.{SeriesBody}

pub record IsLabelNames (value : Data) (body : LabelNamesBody) : Type 0 where
  pub matchers : texts_in (codes "matchers") value ≡ Some (map (λ text. text.now) body.matchers.items)
  pub start : number_in (codes "start") value ≡ Some body.start_ms
  pub end : option_map end_of (number_in (codes "end") value) ≡ Some body.end_ms

abbrev pub label_names_kinds : Data → List Bool
label_names_kinds value =
    is_some (texts_in (codes "matchers") value)
    ∷ is_some (number_in (codes "start") value)
    ∷ is_some (number_in (codes "end") value) ∷ []

pub record IsLabelValues (value : Data) (body : LabelValuesBody) : Type 0 where
  pub name : text_in (codes "name") value ≡ Some body.name.now
  pub matchers : texts_in (codes "matchers") value ≡ Some (map (λ text. text.now) body.matchers.items)
  pub start : number_in (codes "start") value ≡ Some body.start_ms
  pub end : option_map end_of (number_in (codes "end") value) ≡ Some body.end_ms

abbrev pub label_values_kinds : Data → List Bool
label_values_kinds value = is_some (text_in (codes "name") value) ∷ label_names_kinds value

pub record IsSeries (value : Data) (body : SeriesBody) : Type 0 where
  pub matchers : texts_in (codes "matchers") value ≡ Some (map (λ text. text.now) body.matchers.items)
  pub label_names : texts_in (codes "labelNames") value ≡ Some (map (λ text. text.now) body.label_names.items)
  pub start : number_in (codes "start") value ≡ Some body.start_ms
  pub end : option_map end_of (number_in (codes "end") value) ≡ Some body.end_ms

abbrev pub series_kinds : Data → List Bool
series_kinds value =
    is_some (texts_in (codes "matchers") value)
    ∷ is_some (texts_in (codes "labelNames") value)
    ∷ is_some (number_in (codes "start") value)
    ∷ is_some (number_in (codes "end") value) ∷ []
