use Rattle.std.proofs.lemmas.Result.{on_ok_weaker}
use Rattle.query_merge.proofs.PlotLemmas.{asked, still_within}
use Rattle.query_merge.proofs.points.add_profile.Goals as goal

pub returns-in-Some-clause-more : goal.returns-in-Some-clause-more
returns-in-Some-clause-more c = λ profiles are.
    let place = rw c.in-Some.is at c.in_ok-labels.ensures.exact in
    on_ok_weaker c.count.result
    (λ did. asked c.args.plan.now profiles c.args.profile.now c.args.held.now c.count.new.self c.in-Some.labels c.in-Some.point c.total.result
    place.0 place.1 place.2 c.total.ensures.total did are) c.count.ensures

pub returns-in-Some-clause-within : goal.returns-in-Some-clause-within
returns-in-Some-clause-within c =
    on_ok_weaker c.count.result
    (λ did. still_within c.args.held.now c.count.new.self c.in-Some.labels c.in-Some.point c.total.result did c.requires.within) c.count.ensures
