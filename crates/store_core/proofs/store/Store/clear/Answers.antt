use Rattle.std.proofs.Common.{◌≡◌, ◌≤◌, ◌<◌, ◌+◌, ◌++◌, ap, sym, ◌∙◌, subst, refl, Some, None, List, ℕ, true, false, length, arith}
use Rattle.std.proofs.lemmas.Bool.{false≢true}
use Rattle.std.specs.Option.{option_map}
use Rattle.disk_trait.specs.Disk.{Tells, Files}
use Rattle.profile_model.specs.declared.push.Push.{Push}
use Rattle.store_core.specs.Store.{FlightView, HasHistory, Invariant, StoreView, in_flight}
use Rattle.store_core.specs.Changes.{IsMended}
use Rattle.store_core.proofs.StoreLemmas.{cleared_invariant, cleared_mends, ids_below, store_of}
use Rattle.store_core.proofs.store.Store.clear.Goals as goal

pub invariant_of-self-in-Err : goal.invariant_of-self-in-Err
invariant_of-self-in-Err g c =
    let old = g.D.Disk.view c.self.inside.disk in
    let new = g.D.Disk.view c.remove_spares.new.disk in
    let before : StoreView g.row.D.Denot = store_of c.self.inside.disk c.self.inside.index c.self.inside.flight c.self.inside.sure c.self.inside.records c.self.inside.journal.count c.self.inside.limits in
    let none : before.flight ≡ None = ap (λ s. s.flight) c.self.view_is ∙ c.requires in
    subst (λ o. Invariant new c.self.inside.journal c.self.inside.index o c.self.inside.books false c.self.inside.records) (sym none)
    (cleared_invariant old c.self.inside.journal before c.self.inside.books c.self.inside.sure c.self.invariant none new c.remove_spares.ensures.goes_on c.entries.result.now (sym c.entries.ensures.entries) c.remove_spares.ensures.spares false (λ is. absurd (false≢true is)))

pub invariant_of-self : goal.invariant_of-self
invariant_of-self g c =
    let old = g.D.Disk.view c.self.inside.disk in
    let new = g.D.Disk.view c.remove_spares.new.disk in
    let before : StoreView g.row.D.Denot = store_of c.self.inside.disk c.self.inside.index c.self.inside.flight c.self.inside.sure c.self.inside.records c.self.inside.journal.count c.self.inside.limits in
    let none : before.flight ≡ None = ap (λ s. s.flight) c.self.view_is ∙ c.requires in
    subst (λ o. Invariant new c.self.inside.journal c.self.inside.index o c.self.inside.books true c.self.inside.records) (sym none)
    (cleared_invariant old c.self.inside.journal before c.self.inside.books c.self.inside.sure c.self.invariant none new c.remove_spares.ensures.goes_on c.entries.result.now (sym c.entries.ensures.entries) c.remove_spares.ensures.spares true
    (λ is t. c.in-Ok.ensures.none (c.self.inside.index.greatest + 1) t (ids_below c.self.inside.index.greatest c.self.inside.index.entries c.entries.result.now c.entries.ensures.entries c.entries.ensures.ids)))

pub returns-in-Err-clause-mended : goal.returns-in-Err-clause-mended
returns-in-Err-clause-mended g c =
    let old = g.D.Disk.view c.self.inside.disk in
    let new = g.D.Disk.view c.remove_spares.new.disk in
    let before : StoreView g.row.D.Denot = store_of c.self.inside.disk c.self.inside.index c.self.inside.flight c.self.inside.sure c.self.inside.records c.self.inside.journal.count c.self.inside.limits in
    let none : before.flight ≡ None = ap (λ s. s.flight) c.self.view_is ∙ c.requires in
    subst (λ s. (history : List Push) → Tells (g.D.Disk.view s.disk) → HasHistory (g.D.Disk.view s.disk) s history → IsMended (g.D.Disk.view s.disk) (g.D.Disk.view c.remove_spares.new.disk) s (store_of c.remove_spares.new.disk c.self.inside.index c.self.inside.flight false c.self.inside.records c.self.inside.journal.count c.self.inside.limits) history history) c.self.view_is
    (λ history t held. cleared_mends old c.self.inside.journal before c.self.inside.books c.self.inside.sure c.self.invariant none new c.remove_spares.ensures.goes_on c.entries.result.now (sym c.entries.ensures.entries) c.remove_spares.ensures.spares (store_of c.remove_spares.new.disk c.self.inside.index c.self.inside.flight false c.self.inside.records c.self.inside.journal.count c.self.inside.limits) refl refl none c.remove_spares.ensures.loses history t held)

pub returns-in-Ok-clause-mended : goal.returns-in-Ok-clause-mended
returns-in-Ok-clause-mended g c =
    let old = g.D.Disk.view c.self.inside.disk in
    let new = g.D.Disk.view c.remove_spares.new.disk in
    let before : StoreView g.row.D.Denot = store_of c.self.inside.disk c.self.inside.index c.self.inside.flight c.self.inside.sure c.self.inside.records c.self.inside.journal.count c.self.inside.limits in
    let none : before.flight ≡ None = ap (λ s. s.flight) c.self.view_is ∙ c.requires in
    subst (λ s. (history : List Push) → Tells (g.D.Disk.view s.disk) → HasHistory (g.D.Disk.view s.disk) s history → IsMended (g.D.Disk.view s.disk) (g.D.Disk.view c.remove_spares.new.disk) s (store_of c.remove_spares.new.disk c.self.inside.index c.self.inside.flight true c.self.inside.records c.self.inside.journal.count c.self.inside.limits) history history) c.self.view_is
    (λ history t held. cleared_mends old c.self.inside.journal before c.self.inside.books c.self.inside.sure c.self.invariant none new c.remove_spares.ensures.goes_on c.entries.result.now (sym c.entries.ensures.entries) c.remove_spares.ensures.spares (store_of c.remove_spares.new.disk c.self.inside.index c.self.inside.flight true c.self.inside.records c.self.inside.journal.count c.self.inside.limits) refl refl none c.remove_spares.ensures.loses history t held)
