use Rattle.std.proofs.Common.{◌≡◌, ◌≤◌, ◌<◌, ◌+◌, ◌++◌, ap, sym, ◌∙◌, subst, refl, Some, None, List, ℕ, true, false, length, arith}
use Rattle.std.proofs.lemmas.Bool.{false≢true}
use Rattle.std.specs.Option.{option_map}
use Rattle.disk_trait.specs.Disk.{Tells, Files}
use Rattle.profile_model.specs.declared.push.Push.{Push}
use Rattle.store_core.specs.Store.{FlightView, HasHistory, Invariant, StoreView, in_flight}
use Rattle.history_files.specs.History.{StandFor}
use Rattle.store_core.specs.Changes.{IsMended}
use Rattle.store_core.proofs.StoreLemmas.{still_mends, still_read, store_of}
use Rattle.store_core.proofs.store.Store.mend.Goals as goal

pub returns-then-self-clause-mended : goal.returns-then-self-clause-mended
returns-then-self-clause-mended g c =
    let none = c.self.invariant.settled c.if-self.true in
    subst (λ s. (history : List Push) → Tells (g.D.Disk.view s.disk) → HasHistory (g.D.Disk.view s.disk) s history → (x : List Push) × IsMended (g.D.Disk.view s.disk) (g.D.Disk.view s.disk) s s history x × StandFor s.records (g.D.Disk.view s.disk).files x) c.self.view_is
    (λ history t held. (history, still_mends (g.D.Disk.view c.self.inside.disk) c.self.inside.journal (store_of c.self.inside.disk c.self.inside.index c.self.inside.flight c.self.inside.sure c.self.inside.records c.self.inside.journal.count c.self.inside.limits) c.self.inside.books c.self.inside.sure c.self.invariant none (store_of c.self.inside.disk c.self.inside.index c.self.inside.flight c.self.inside.sure c.self.inside.records c.self.inside.journal.count c.self.inside.limits) refl refl none history t held, still_read (g.D.Disk.view c.self.inside.disk) c.self.inside.journal (store_of c.self.inside.disk c.self.inside.index c.self.inside.flight c.self.inside.sure c.self.inside.records c.self.inside.journal.count c.self.inside.limits) c.self.inside.books c.self.inside.sure c.self.invariant none history t held))
