use Rattle.std.proofs.Common.{sym, ◌∙◌}
use Rattle.profile_model.specs.LabelOrder.{labels_total}
use Rattle.label_queries.proofs.SetLemmas.{there}
use Rattle.label_queries.proofs.label_sets.is_there.Goals as goal

pub returns-then-len-gt0 : goal.returns-then-len-gt0
returns-then-len-gt0 c = λ is. there labels_total c.args.set.now c.args.sets.now.keys c.len.ensures.ordered (sym c.contains.ensures ∙ is)
