-- What is kept of a whole body.
use Rattle.std.specs.Prelude.{◌≡◌, ℕ, List, codes, option_map, string_bytes, unwrap_or}
use Rattle.serde_json.specs.Data.{Data, null}
use Rattle.serde_json.specs.Read.{read}
use Rattle.json_bodies.specs.Fields.{number_in, text_in, texts_in}
use Rattle.json_bodies.specs.Pushes.{members_in}
use Rattle.json_bodies.specs.KeptSeries.{IsKeptPush}
use Rattle.json_bodies.specs.declared.kept.Fields.{Fields}

-- the fields say what the body's do
pub record AreFields (body : Data) (fields : Fields) : Type 0 where
  pub name : text_in (codes "name") body ≡ option_map string_bytes fields.name
  pub matchers : texts_in (codes "matchers") body ≡ fields.matchers
  pub label_names : texts_in (codes "labelNames") body ≡ fields.label_names
  pub start : number_in (codes "start") body ≡ fields.start
  pub end : number_in (codes "end") body ≡ fields.end
  pub series : IsKeptPush (members_in body) fields.series

-- the value that a body is, where it is one
unfoldable pub value_of : List ℕ → Data
value_of body = unwrap_or (read body) null
