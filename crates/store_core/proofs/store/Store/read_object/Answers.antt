use Rattle.std.proofs.Common.{◌≡◌, ◌-◌, ℕ, List, IfOk, IsErrOf, drop, take, refl, sym, ◌∙◌, subst}
use Rattle.std.specs.Option.{option_map}
use Rattle.disk_trait.specs.Disk.{Tells}
use Rattle.metastore_index.specs.declared.entry.Entry as entries
use Rattle.metastore_index.specs.Entries.{Covers}
use Rattle.profile_model.specs.declared.push.Push.{Push}
use Rattle.store_core.specs.declared.fault.ReadFault.TheVariants as faults
use Rattle.store_core.specs.Store.{HasHistory, StoreView}
use Rattle.store_core.specs.Changes.{KeepsOn}
use Rattle.store_core.proofs.StoreLemmas.{seen_flight, store_of}
use Rattle.store_core.proofs.ReadLemmas.{covered_held, covered_once, looked_invariant, looked_keeps, same_fault}
use Rattle.store_core.proofs.store.Store.read_object.Goals as goal
use Rattle.store_core.proofs.store.Store.read_object.Goals.{in-Ok, in-Err}

pub invariant_of-self : goal.invariant_of-self
invariant_of-self g c =
    looked_invariant (g.D.Disk.view c.self.inside.disk) (g.D.Disk.view c.object_of.new.disk) c.self.inside.journal c.self.inside.index (option_map seen_flight c.self.inside.flight)
    c.self.inside.books c.self.inside.sure c.object_of.ensures.looks c.object_of.ensures.goes_on c.self.inside.records c.self.invariant

pub returns-clause-pushes : goal.returns-clause-pushes
returns-clause-pushes g c =
    subst (λ s. (history : List Push) → Tells (g.D.Disk.view s.disk) → HasHistory (g.D.Disk.view s.disk) s history
    → IfOk c.match-object_of.result (λ pair. pair.1.pushes ≡ take (pair.0.hi - pair.0.lo) (drop pair.0.lo history))) c.self.view_is
    (λ history t held. elim c.match-object_of.branch [
      | in-Ok w ↦
          rw w.result-is
          (w.in-Ok.ensures.held c.self.inside.index.entries history t
          (covered_held (g.D.Disk.view c.self.inside.disk) c.self.inside.journal c.self.inside.index (option_map seen_flight c.self.inside.flight) c.self.inside.books c.self.inside.sure
          c.self.inside.records c.self.invariant c.args.at c.in-Some.entry c.in-Some.ensures.entry t history held))
      | in-Err w ↦ rw w.result-is tt
    ])

pub returns-clause-damaged : goal.returns-clause-damaged
returns-clause-damaged g c =
    subst (λ s. (id : ℕ) → IsErrOf c.match-object_of.result (faults.Damaged id)
    → ((entry : entries.Entry) × Covers s.index.entries c.args.at entry × (id ≡ entry.id)) × (Tells (g.D.Disk.view s.disk) → ⊥)) c.self.view_is
    (λ id is. elim c.match-object_of.branch [
      | in-Ok w ↦ let never = sym w.result-is ∙ is in absurd (cc)
      | in-Err w ↦
          let damaged = w.in-Err.ensures.damaged id (same_fault w.in-Err.fault (faults.Damaged id) (sym w.result-is ∙ is)) in (
            (c.in-Some.entry, c.in-Some.ensures.entry, damaged.0),
            λ t.
                let once = covered_once (g.D.Disk.view c.self.inside.disk) c.self.inside.journal c.self.inside.index (option_map seen_flight c.self.inside.flight) c.self.inside.books c.self.inside.sure
                c.self.inside.records c.self.invariant c.args.at c.in-Some.entry c.in-Some.ensures.entry t in
                damaged.1 c.self.inside.index.entries once.0 t once.1,
          )
    ])

pub returns-clause-keeps : goal.returns-clause-keeps
returns-clause-keeps g c =
    let old = g.D.Disk.view c.self.inside.disk in
    let new = g.D.Disk.view c.object_of.new.disk in
    let before : StoreView g.row.D.Denot = store_of c.self.inside.disk c.self.inside.index c.self.inside.flight c.self.inside.sure c.self.inside.records c.self.inside.journal.count c.self.inside.limits in
    let after : StoreView g.row.D.Denot = store_of c.object_of.new.disk c.self.inside.index c.self.inside.flight c.self.inside.sure c.self.inside.records c.self.inside.journal.count c.self.inside.limits in
    subst (λ s. (history : List Push) → Tells (g.D.Disk.view s.disk) → HasHistory (g.D.Disk.view s.disk) s history → KeepsOn (g.D.Disk.view s.disk) new s after history history) c.self.view_is
    (looked_keeps old new c.self.inside.journal before after c.self.inside.books c.self.inside.sure c.object_of.ensures.looks c.object_of.ensures.goes_on c.self.invariant refl refl refl)
