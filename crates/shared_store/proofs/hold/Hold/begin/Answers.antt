use Rattle.std.proofs.Common.{◌∙◌, subst}
use Rattle.push_history.specs.History.{HasBoundedTotals}
use Rattle.shared_store.proofs.TieLemmas.{tied_bounded}
use Rattle.shared_store.proofs.hold.Hold.begin.Goals as goal

pub returns-then-front-asked-clause-bounded : goal.returns-then-front-asked-clause-bounded
returns-then-front-asked-clause-bounded g c =
    let inside = c.self.inside in
    subst (λ s. g.J.Names.run.tells → HasBoundedTotals s.mark.list) (c.self.view_is ∙ c.meet.ensures.unchanged)
    (tied_bounded g.J.Names.run (g.D.Disk.view inside.store.disk) inside.store inside.spine.list c.self.invariant.tied c.stands.ensures.images)

pub returns-clause-bounded : goal.returns-clause-bounded
returns-clause-bounded g c =
    let inside = c.self.inside in
    subst (λ s. g.J.Names.run.tells → HasBoundedTotals s.mark.list) (c.self.view_is ∙ c.meet.ensures.unchanged)
    (tied_bounded g.J.Names.run (g.D.Disk.view inside.store.disk) inside.store inside.spine.list c.self.invariant.tied c.stands.ensures.images)
