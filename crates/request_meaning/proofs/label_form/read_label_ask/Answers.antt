use Rattle.request_meaning.specs.declared.method.LabelMethod.TheVariants.{Names, Values, Series}
use Rattle.request_meaning.proofs.LabelLemmas.{body_asks}
use Rattle.request_meaning.proofs.label_form.read_label_ask.Goals as goal

pub returns-in-Names : goal.returns-in-Names
returns-in-Names c =
    rw c.in-Names.is (body_asks Names c.args.body.now c.args.tenant c.in-Ok.object c.names_ask.result c.in-Ok.ensures.read c.names_ask.ensures)

pub returns-in-Values : goal.returns-in-Values
returns-in-Values c =
    rw c.in-Values.is (body_asks Values c.args.body.now c.args.tenant c.in-Ok.object c.values_ask.result c.in-Ok.ensures.read c.values_ask.ensures)

pub returns : goal.returns
returns c =
    rw c.in-Series.is (body_asks Series c.args.body.now c.args.tenant c.in-Ok.object c.series_ask.result c.in-Ok.ensures.read c.series_ask.ensures)
