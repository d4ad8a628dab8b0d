use Rattle.std.proofs.Common.{◌∷◌, [], ap, ◌∙◌}
use Rattle.std.specs.Option.{option_map}
use Rattle.json_bodies.specs.Pushes.{label_in}
use Rattle.json_bodies.proofs.SaidLemmas.{each_said_none, each_said_none_before, each_said_push}
use Rattle.json_bodies.proofs.lists.with_label.Goals as goal

pub returns-in_ok-push-in-Some-label : goal.returns-in_ok-push-in-Some-label
returns-in_ok-push-in-Some-label c = λ ds d are here.
    rw (c.in_ok-push-in-Some-label.ensures.items, c.in_ok-name-in-Some-label.ensures.ok, c.in_ok-value-in-Some-label.ensures.ok)
    (each_said_push label_in ds d (c.in-Some-label.name.now, c.in-Some-label.value.now) c.in-Some.labels.items
    (are ∙ ap (option_map (λ l. l.items)) c.in-Some.is) (here ∙ ap (option_map (λ l. (l.0.now, l.1.now))) c.in-Some-label.is))

pub returns-in-None-label : goal.returns-in-None-label
returns-in-None-label c = λ ds d are here.
    each_said_none label_in ds [] d (here ∙ ap (option_map (λ l. (l.0.now, l.1.now))) c.in-None-label.is)

pub returns-in-None : goal.returns-in-None
returns-in-None c = λ ds d are here. each_said_none_before label_in ds (d ∷ []) (are ∙ ap (option_map (λ l. l.items)) c.in-None.is)
