use Rattle.std.proofs.Common.{◌≡◌, ◌∙◌, length}
use Rattle.pprof_message.proofs.RunsLemmas.{IsCut-push, runs_of-end}
use Rattle.pprof_message.proofs.runs.Runs.close.Goals as goal

pub invariant_of-self-2 : goal.invariant_of-self-2
invariant_of-self-2 g c =
    let end : c.len-end.result ≡ length c.self.inside.items.items = c.len-end.ensures ∙ c.self.inside.items.ok.0 in
    rw (c.in_ok-push.ensures.items, end) (IsCut-push 0 c.self.inside.ends.items _ c.self.invariant)

pub returns : goal.returns
returns g c =
    let end : c.len-end.result ≡ length c.self.inside.items.items = c.len-end.ensures ∙ c.self.inside.items.ok.0 in
    rw (c.in_ok-push.ensures.items, end, ← c.self.view_is) (runs_of-end c.self.inside.items.items c.self.inside.ends.items)
