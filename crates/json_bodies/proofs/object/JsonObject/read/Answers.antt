use Rattle.std.proofs.Common.{◌≡◌, Some, IsSome, refl, sym, ap, subst, ◌∙◌}
use Rattle.serde_json.specs.Data.{object}
use Rattle.serde_json.specs.Find.{as_object}
use Rattle.serde_json.specs.Read.{read}
use Rattle.json_bodies.specs.KeptFields.{AreFields}
use Rattle.json_bodies.specs.Objects.{IsJson}
use Rattle.json_bodies.proofs.KeptLemmas.{value_is}
use Rattle.json_bodies.proofs.object.JsonObject.read.Goals as goal

pub invariant_of-result : goal.invariant_of-result
invariant_of-result c =
    let told = c.in-Ok-read_fields.ensures in
    let text : read c.args.body.now ≡ Some (object told.0) = ap read (sym c.in-Ok.ensures.cases.0) ∙ told.1 in
    subst (λ d. IsSome (as_object d) × AreFields d c.in-Ok-read_fields.fields) (sym (value_is c.args.body.now (object told.0) text)) (refl, told.2)

pub returns-in-Ok-read_fields : goal.returns-in-Ok-read_fields
returns-in-Ok-read_fields c =
    let told = c.in-Ok-read_fields.ensures in
    let text : read c.args.body.now ≡ Some (object told.0) = ap read (sym c.in-Ok.ensures.cases.0) ∙ told.1 in
    record {
      read = subst (λ d. IsJson c.args.body.now d × IsSome (as_object d)) (sym (value_is c.args.body.now (object told.0) text))
          (record { utf8 = c.in-Ok.ensures.cases.1; text = text }, refl);
    }
