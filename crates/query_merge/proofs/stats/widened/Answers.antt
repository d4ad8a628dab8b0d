use Rattle.query_merge.proofs.SpanLemmas.{wider}
use Rattle.query_merge.proofs.stats.widened.Goals as goal

pub returns-in-Some : goal.returns-in-Some
returns-in-Some c = λ profiles ends. wider profiles c.args.profile.now c.in-Some.oldest c.in-Some.newest c.min.result c.max.result
    (rw c.in-Some.is at ends) c.min.ensures c.max.ensures
