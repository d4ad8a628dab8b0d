use Rattle.std.proofs.Common.{◌∙◌, sym}
use Rattle.query_merge.proofs.GroupLemmas.{stays}
use Rattle.query_merge.proofs.points.named_or_other.Goals as goal

pub returns-then-contains : goal.returns-then-contains
returns-then-contains c = stays c.args.names.now c.args.name.now c.args.labels (sym c.contains.ensures.value ∙ c.if-contains.true)
