use Rattle.std.proofs.Common.{◌≡◌, ◌≤◌, ◌<◌, ◌+◌, ◌++◌, ap, sym, ◌∙◌, subst, refl, Some, None, List, ℕ, true, false, length, arith}
use Rattle.std.proofs.lemmas.Bool.{false≢true}
use Rattle.std.specs.Option.{option_map}
use Rattle.disk_trait.specs.Disk.{Tells, Files}
use Rattle.profile_model.specs.declared.push.Push.{Push}
use Rattle.store_core.specs.Store.{FlightView, HasHistory, Invariant, StoreView, in_flight}
use Rattle.store_core.specs.Changes.{IsMended}
use Rattle.store_core.proofs.KeptLemmas.{long_as}
use Rattle.store_core.proofs.store.Store.len.Goals as goal

pub returns-clause-told : goal.returns-clause-told
returns-clause-told g c =
    subst (λ s. (history : List Push) → Tells (g.D.Disk.view s.disk) → HasHistory (g.D.Disk.view s.disk) s history → c.end.result ≡ length history) c.self.view_is
    (λ history t held. c.end.ensures ∙ long_as (g.D.Disk.view c.self.inside.disk) c.self.inside.journal c.self.inside.index _ c.self.inside.books c.self.inside.sure c.self.inside.records c.self.invariant history t held)

pub returns-clause-small : goal.returns-clause-small
returns-clause-small g c = omega (arith, c.end.ensures, c.self.invariant.short)
