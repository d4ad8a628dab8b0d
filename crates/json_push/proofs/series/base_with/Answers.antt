use Rattle.std.proofs.Common.{codes, length, ap, arith}
use Rattle.profile_model.specs.LabelSets.{Label}
use Rattle.json_push.proofs.LabelLemmas.{without-shorter}
use Rattle.json_push.proofs.series.base_with.Goals as goal

pub with_service-requires-clause-few : goal.with_service-requires-clause-few
with_service-requires-clause-few c =
    let same = ap (length {A = Label}) c.own_labels.ensures.own in
    let shorter = without-shorter c.args.labels (codes "__name__") (codes "__profile_type__") in
    let few = c.requires.few in omega arith
