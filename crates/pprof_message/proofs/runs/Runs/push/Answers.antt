use Rattle.std.proofs.Common.{[], ◌∷◌, ◌++◌, length, arith}
use Rattle.std.proofs.lemmas.List.{length_push}
use Rattle.pprof_message.proofs.RunsLemmas.{IsCut-more, runs_of-item}
use Rattle.pprof_message.proofs.runs.Runs.push.Goals as goal

pub invariant_of-self-2 : goal.invariant_of-self-2
invariant_of-self-2 g c =
    let items = c.self.inside.items.items in
    rw c.in_ok-push.ensures.items
    (IsCut-more 0 c.self.inside.ends.items (length items) (length (items ++ c.args.item ∷ [])) (omega (arith, length_push items c.args.item)) c.self.invariant)

pub returns : goal.returns
returns g c = rw (c.in_ok-push.ensures.items, ← c.self.view_is) (runs_of-item c.self.inside.items.items c.self.inside.ends.items c.args.item c.self.invariant)
