use Rattle.std.proofs.Common.{◌≡◌, ◌∙◌, [], ap, drop}
use Rattle.std.proofs.lemmas.List.{drop_all}
use Rattle.label_queries.specs.Gathered.{Gathered}
use Rattle.api_replies.proofs.LabelLemmas.{sets_are}
use Rattle.api_replies.proofs.labels.sets_of_history.Goals as goal

pub returns : goal.returns
returns c =
    let history = c.args.history.now in
    let all : drop c.loop-push.push-index history ≡ [] = drop_all c.loop-push.push-index history c.loop-push-test.false in
    let gathered = rw all at c.loop-push.invariant in
    ap (λ (gathered : Gathered). gathered.sets) gathered ∙ sets_are c.args.selectors.items history c.args.part.now.tenant c.args.part.now.from_ms c.args.part.now.until_ms
