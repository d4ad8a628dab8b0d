use Rattle.std.proofs.Common.{◌≡◌, ◌≤◌, ◌<◌, ◌+◌, ◌++◌, ap, sym, ◌∙◌, subst, refl, Some, None, List, ℕ, true, false, length, arith}
use Rattle.std.proofs.lemmas.Bool.{false≢true}
use Rattle.std.specs.Option.{option_map}
use Rattle.disk_trait.specs.Disk.{Tells, Files}
use Rattle.profile_model.specs.declared.push.Push.{Push}
use Rattle.store_core.specs.Store.{FlightView, HasHistory, Invariant, StoreView, in_flight}
use Rattle.store_core.specs.Changes.{IsMended}
use Rattle.push_history.specs.History.{front_of}
use Rattle.push_history.specs.declared.kept.Standing.{Standing}
use Rattle.store_core.proofs.KeptLemmas.{front_as}
use Rattle.store_core.proofs.store.Store.front.Goals as goal

pub returns : goal.returns
returns g c =
    subst (λ s. (history : List Push) → Tells (g.D.Disk.view s.disk) → HasHistory (g.D.Disk.view s.disk) s history → c.standing.result.front ≡ front_of history c.args.tenant.now) c.self.view_is
    (λ history t held. ap (λ (s : Standing). s.front) c.standing.ensures ∙ front_as (g.D.Disk.view c.self.inside.disk) c.self.inside.journal c.self.inside.index _ c.self.inside.books c.self.inside.sure c.self.inside.records c.self.invariant history t held c.args.tenant.now)
