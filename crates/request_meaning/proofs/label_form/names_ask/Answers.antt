use Rattle.std.proofs.Common.{refl, map}
use Rattle.request_meaning.specs.declared.ask.LabelQuery.TheVariants as ask
use Rattle.request_meaning.specs.declared.method.LabelMethod.TheVariants.{Names}
use Rattle.request_meaning.proofs.LabelLemmas.{kept_ok, object_asks}
use Rattle.request_meaning.proofs.label_form.names_ask.Goals as goal

pub returns : goal.returns
returns c =
    let body = c.in_ok-body.body in
    let said = kept_ok _ _ _ c.of.result c.map_err.result body c.of.ensures.read c.map_err.ensures.cases c.map_err.ensures.variant c.in_ok-body.was in
    object_asks Names c.args.object.now c.args.tenant ask.Names (map (λ text. text.now) body.matchers.items) body.start_ms body.end_ms c.label_ask.result
    refl tt said.matchers (record { start = said.start; end = said.end }) (rw c.deref.ensures.value at c.label_ask.ensures)
