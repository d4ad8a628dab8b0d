use Rattle.std.proofs.Common.{codes, sym, ap, ◌∙◌, true, false}
use Rattle.profile_model.specs.LabelSets.{label_of}
use Rattle.json_push.proofs.LabelLemmas.{label_found, service_named, service_put}
use Rattle.json_push.proofs.series.with_service.Goals as goal

pub returns-then-is_some-clause-value : goal.returns-then-is_some-clause-value
returns-then-is_some-clause-value c =
    service_named c.args.labels
    (label_found c.get.result c.args.labels (codes "service_name") true (c.get.ensures ∙ ap (label_of c.args.labels) c.as_bytes.ensures.value) (sym c.is_some.ensures ∙ c.if-is_some.true))

pub returns-clause-value : goal.returns-clause-value
returns-clause-value c =
    service_put c.args.labels c.set.new.self c.in_ok-name.name c.in_ok-from_text.field-0 c.in_ok-name.ensures.ok c.in_ok-from_text.ensures.ok
    (label_found c.get.result c.args.labels (codes "service_name") false (c.get.ensures ∙ ap (label_of c.args.labels) c.as_bytes.ensures.value) (sym c.is_some.ensures ∙ c.if-is_some.false))
    c.in_ok-set.ensures.ok
