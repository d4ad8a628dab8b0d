use Rattle.std.proofs.Common.{◌≡◌, ◌⊎◌, ◌≤◌, ◌<◌, ◌+◌, ◌++◌, inl, inr, ap, sym, ◌∙◌, subst, refl, Some, None, Option, Bool, List, [], ℕ, true, false, length, arith, append-nil}
use Rattle.std.proofs.lemmas.Bool.{false≢true}
use Rattle.std.specs.Option.{option_map}
use Rattle.disk_trait.specs.Disk.{Tells, Files, Leads, Stays}
use Rattle.disk_trait.proofs.Steps.{still}
use Rattle.metastore_index.specs.Entries.{end_of}
use Rattle.profile_model.specs.declared.push.Push.{Push}
use Rattle.history_files.specs.History.{StandFor}
use Rattle.store_core.specs.Store.{FlightView, HasHistory, Invariant, IsKept, StoreView, given}
use Rattle.store_core.specs.Changes.{HasSameIndex, IsMended, LeavesOthers, TakesFlight}
use Rattle.store_core.proofs.StoreLemmas.{decided_invariant, decided_mends, decided_read, doubted_invariant, doubted_mends, flight_behind, flight_none, flight_there, same_pushes, seen_flight, still_mends, still_read, store_of}
use Rattle.store_core.proofs.IndexLemmas.{same_index, takes_of}
use Rattle.store_core.proofs.OtherLemmas.{others_still}
use Rattle.store_core.proofs.store.Store.decide.Goals as goal

pub decide_on-requires-clause-behind : goal.decide_on-requires-clause-behind
decide_on-requires-clause-behind g c =
    let old = g.D.Disk.view c.self.inside.disk in
    let f : FlightView = record { entry = c.in-Some.flight.entry; pushes = c.deref.result.now } in
    let there : option_map seen_flight c.self.inside.flight ≡ Some f = flight_there c.self.inside.flight c.take.result c.in-Some.flight c.deref.result.now c.take.ensures.value c.in-Some.is c.deref.ensures.value in
    flight_behind old old c.self.inside.journal c.self.inside.journal (store_of c.self.inside.disk c.self.inside.index c.self.inside.flight c.self.inside.sure c.self.inside.records c.self.inside.journal.count c.self.inside.limits) (store_of c.self.inside.disk c.self.inside.index c.self.inside.flight c.self.inside.sure c.self.inside.records c.self.inside.journal.count c.self.inside.limits) c.self.inside.books c.self.inside.books c.self.inside.sure c.self.invariant f there

-- ---- nothing is in the air

pub returns-in_default-clause-mended : goal.returns-in_default-clause-mended
returns-in_default-clause-mended g c =
    let none = flight_none c.self.inside.flight c.take.result c.take.ensures.value c.in_default.is in
    subst (λ s. (history : List Push) → Tells (g.D.Disk.view s.disk) → HasHistory (g.D.Disk.view s.disk) s history
    → (x : List Push) × IsMended (g.D.Disk.view s.disk) (g.D.Disk.view c.self.inside.disk) s (store_of c.self.inside.disk c.self.inside.index c.take.new.self c.self.inside.sure c.self.inside.records c.self.inside.journal.count c.self.inside.limits) history x × (x ≡ history ++ c.new.result.items) × StandFor s.records (g.D.Disk.view s.disk).files x) c.self.view_is
    (λ history t held. (
      history,
      still_mends (g.D.Disk.view c.self.inside.disk) c.self.inside.journal (store_of c.self.inside.disk c.self.inside.index c.self.inside.flight c.self.inside.sure c.self.inside.records c.self.inside.journal.count c.self.inside.limits) c.self.inside.books c.self.inside.sure c.self.invariant none
          (store_of c.self.inside.disk c.self.inside.index c.take.new.self c.self.inside.sure c.self.inside.records c.self.inside.journal.count c.self.inside.limits) refl refl (ap (option_map seen_flight) c.take.ensures.after) history t held,
      sym (ap (λ (l : List Push). history ++ l) c.new.ensures.items ∙ append-nil history),
      still_read (g.D.Disk.view c.self.inside.disk) c.self.inside.journal (store_of c.self.inside.disk c.self.inside.index c.self.inside.flight c.self.inside.sure c.self.inside.records c.self.inside.journal.count c.self.inside.limits) c.self.inside.books c.self.inside.sure c.self.invariant none history t held,
    ))

pub returns-in_default-clause-others : goal.returns-in_default-clause-others
returns-in_default-clause-others g c =
    let old = g.D.Disk.view c.self.inside.disk in
    subst (λ s. Leads LeavesOthers (g.D.Disk.view s.disk) old) c.self.view_is (others_still old old (still old))

pub returns-in_default-clause-stays : goal.returns-in_default-clause-stays
returns-in_default-clause-stays g c =
    let old = g.D.Disk.view c.self.inside.disk in subst (λ s. Leads Stays (g.D.Disk.view s.disk) old) c.self.view_is (still old)

pub returns-in_default-clause-index : goal.returns-in_default-clause-index
returns-in_default-clause-index g c t =
    let after = store_of c.self.inside.disk c.self.inside.index c.take.new.self c.self.inside.sure c.self.inside.records c.self.inside.journal.count c.self.inside.limits in
    subst (λ s. TakesFlight s after) c.self.view_is
    (inl (same_index (store_of c.self.inside.disk c.self.inside.index c.self.inside.flight c.self.inside.sure c.self.inside.records c.self.inside.journal.count c.self.inside.limits) after refl refl))

-- ---- it came through, or it didn't

pub invariant_of-self-in-Ok-true : goal.invariant_of-self-in-Ok-true
invariant_of-self-in-Ok-true g c =
    let old = g.D.Disk.view c.self.inside.disk in
    let new = g.D.Disk.view c.decide_on.new.disk in
    let f : FlightView = record { entry = c.in-Some.flight.entry; pushes = c.deref.result.now } in
    let there : option_map seen_flight c.self.inside.flight ≡ Some f = flight_there c.self.inside.flight c.take.result c.in-Some.flight c.deref.result.now c.take.ensures.value c.in-Some.is c.deref.ensures.value in
    subst (λ (o : Option FlightView). Invariant new c.decide_on.new.journal c.decide_on.new.index o c.decide_on.new.books c.self.inside.sure c.self.inside.records) (sym (ap (option_map seen_flight) c.take.ensures.after))
    (decided_invariant old new c.self.inside.journal c.decide_on.new.journal (store_of c.self.inside.disk c.self.inside.index c.self.inside.flight c.self.inside.sure c.self.inside.records c.self.inside.journal.count c.self.inside.limits) (store_of c.decide_on.new.disk c.decide_on.new.index c.take.new.self c.self.inside.sure c.self.inside.records c.decide_on.new.journal.count c.self.inside.limits) c.self.inside.books c.decide_on.new.books c.self.inside.sure c.self.invariant f there
    c.decide_on.ensures.goes_on c.decide_on.ensures.file c.decide_on.ensures.limit c.deref.result.now (inr refl)
    (λ history t kept. subst (λ (b : Bool). IsKept new c.decide_on.new.journal c.decide_on.new.index None c.decide_on.new.books false (history ++ given b c.deref.result.now)) c.in-Ok-true.field-0-test (c.in-Ok-true.ensures.decided history t kept))
    c.in-Ok-true.ensures.sure
    (subst (λ (b : Bool). end_of c.decide_on.new.index.entries ≡ end_of c.self.inside.index.entries + length (given b c.deref.result.now)) c.in-Ok-true.field-0-test c.in-Ok-true.ensures.end))

pub returns-in-Ok-true-clause-mended : goal.returns-in-Ok-true-clause-mended
returns-in-Ok-true-clause-mended g c =
    let old = g.D.Disk.view c.self.inside.disk in
    let new = g.D.Disk.view c.decide_on.new.disk in
    let f : FlightView = record { entry = c.in-Some.flight.entry; pushes = c.deref.result.now } in
    let there : option_map seen_flight c.self.inside.flight ≡ Some f = flight_there c.self.inside.flight c.take.result c.in-Some.flight c.deref.result.now c.take.ensures.value c.in-Some.is c.deref.ensures.value in
    subst (λ s. (history : List Push) → Tells (g.D.Disk.view s.disk) → HasHistory (g.D.Disk.view s.disk) s history
    → (x : List Push) × IsMended (g.D.Disk.view s.disk) new s (store_of c.decide_on.new.disk c.decide_on.new.index c.take.new.self c.self.inside.sure c.self.inside.records c.decide_on.new.journal.count c.self.inside.limits) history x × (x ≡ history ++ c.in-Some.flight.pushes.items) × StandFor s.records (g.D.Disk.view s.disk).files x) c.self.view_is
    (λ history t held. (
      history ++ c.deref.result.now,
      decided_mends old new c.self.inside.journal c.decide_on.new.journal (store_of c.self.inside.disk c.self.inside.index c.self.inside.flight c.self.inside.sure c.self.inside.records c.self.inside.journal.count c.self.inside.limits) (store_of c.decide_on.new.disk c.decide_on.new.index c.take.new.self c.self.inside.sure c.self.inside.records c.decide_on.new.journal.count c.self.inside.limits) c.self.inside.books c.decide_on.new.books c.self.inside.sure c.self.invariant f there
          c.decide_on.ensures.goes_on c.decide_on.ensures.file c.decide_on.ensures.limit c.deref.result.now (inr refl)
          (λ history t kept. subst (λ (b : Bool). IsKept new c.decide_on.new.journal c.decide_on.new.index None c.decide_on.new.books false (history ++ given b c.deref.result.now)) c.in-Ok-true.field-0-test (c.in-Ok-true.ensures.decided history t kept))
          c.decide_on.ensures.stays refl (ap (option_map seen_flight) c.take.ensures.after) history t held,
      ap (λ (l : List Push). history ++ l) c.deref.ensures.value,
      decided_read old new c.self.inside.journal c.decide_on.new.journal (store_of c.self.inside.disk c.self.inside.index c.self.inside.flight c.self.inside.sure c.self.inside.records c.self.inside.journal.count c.self.inside.limits) (store_of c.decide_on.new.disk c.decide_on.new.index c.take.new.self c.self.inside.sure c.self.inside.records c.decide_on.new.journal.count c.self.inside.limits) c.self.inside.books c.decide_on.new.books c.self.inside.sure c.self.invariant f there
          c.decide_on.ensures.goes_on c.decide_on.ensures.file c.decide_on.ensures.limit c.deref.result.now (inr refl)
          (λ history t kept. subst (λ (b : Bool). IsKept new c.decide_on.new.journal c.decide_on.new.index None c.decide_on.new.books false (history ++ given b c.deref.result.now)) c.in-Ok-true.field-0-test (c.in-Ok-true.ensures.decided history t kept))
          (λ history t kept. subst (λ (b : Bool). StandFor c.self.inside.journal.limit old.files (history ++ given b c.deref.result.now)) c.in-Ok-true.field-0-test (c.in-Ok-true.ensures.stood history t kept))
          history t held,
    ))

pub returns-in-Ok-true-clause-index : goal.returns-in-Ok-true-clause-index
returns-in-Ok-true-clause-index g c t =
    let f : FlightView = record { entry = c.in-Some.flight.entry; pushes = c.deref.result.now } in
    let there : option_map seen_flight c.self.inside.flight ≡ Some f = flight_there c.self.inside.flight c.take.result c.in-Some.flight c.deref.result.now c.take.ensures.value c.in-Some.is c.deref.ensures.value in
    let before = store_of c.self.inside.disk c.self.inside.index c.self.inside.flight c.self.inside.sure c.self.inside.records c.self.inside.journal.count c.self.inside.limits in
    let after = store_of c.decide_on.new.disk c.decide_on.new.index c.take.new.self c.self.inside.sure c.self.inside.records c.decide_on.new.journal.count c.self.inside.limits in
    subst (λ s. TakesFlight s after) c.self.view_is (takes_of before after f there (c.in-Ok-true.ensures.took (subst (λ s. Tells (g.D.Disk.view s.disk)) (sym c.self.view_is) t)))

pub returns-in-Ok-true-clause-end : goal.returns-in-Ok-true-clause-end
returns-in-Ok-true-clause-end g c =
    omega (arith, (subst (λ (b : Bool). end_of c.decide_on.new.index.entries ≡ end_of c.self.inside.index.entries + length (given b c.deref.result.now)) c.in-Ok-true.field-0-test c.in-Ok-true.ensures.end), ap (λ s. end_of s.index.entries) c.self.view_is, ap length c.deref.ensures.value)

pub invariant_of-self-else-decide_on : goal.invariant_of-self-else-decide_on
invariant_of-self-else-decide_on g c =
    let old = g.D.Disk.view c.self.inside.disk in
    let new = g.D.Disk.view c.decide_on.new.disk in
    let f : FlightView = record { entry = c.in-Some.flight.entry; pushes = c.deref.result.now } in
    let there : option_map seen_flight c.self.inside.flight ≡ Some f = flight_there c.self.inside.flight c.take.result c.in-Some.flight c.deref.result.now c.take.ensures.value c.in-Some.is c.deref.ensures.value in
    subst (λ (o : Option FlightView). Invariant new c.decide_on.new.journal c.decide_on.new.index o c.decide_on.new.books c.self.inside.sure c.self.inside.records) (sym (ap (option_map seen_flight) c.take.ensures.after))
    (decided_invariant old new c.self.inside.journal c.decide_on.new.journal (store_of c.self.inside.disk c.self.inside.index c.self.inside.flight c.self.inside.sure c.self.inside.records c.self.inside.journal.count c.self.inside.limits) (store_of c.decide_on.new.disk c.decide_on.new.index c.take.new.self c.self.inside.sure c.self.inside.records c.decide_on.new.journal.count c.self.inside.limits) c.self.inside.books c.decide_on.new.books c.self.inside.sure c.self.invariant f there
    c.decide_on.ensures.goes_on c.decide_on.ensures.file c.decide_on.ensures.limit [] (inl refl)
    (λ history t kept. subst (λ (b : Bool). IsKept new c.decide_on.new.journal c.decide_on.new.index None c.decide_on.new.books false (history ++ given b c.deref.result.now)) c.in-Ok-false.field-0-test (c.in-Ok-false.ensures.decided history t kept))
    c.in-Ok-false.ensures.sure
    (subst (λ (b : Bool). end_of c.decide_on.new.index.entries ≡ end_of c.self.inside.index.entries + length (given b c.deref.result.now)) c.in-Ok-false.field-0-test c.in-Ok-false.ensures.end))

pub returns-in-Ok-false-clause-mended : goal.returns-in-Ok-false-clause-mended
returns-in-Ok-false-clause-mended g c =
    let old = g.D.Disk.view c.self.inside.disk in
    let new = g.D.Disk.view c.decide_on.new.disk in
    let f : FlightView = record { entry = c.in-Some.flight.entry; pushes = c.deref.result.now } in
    let there : option_map seen_flight c.self.inside.flight ≡ Some f = flight_there c.self.inside.flight c.take.result c.in-Some.flight c.deref.result.now c.take.ensures.value c.in-Some.is c.deref.ensures.value in
    subst (λ s. (history : List Push) → Tells (g.D.Disk.view s.disk) → HasHistory (g.D.Disk.view s.disk) s history
    → (x : List Push) × IsMended (g.D.Disk.view s.disk) new s (store_of c.decide_on.new.disk c.decide_on.new.index c.take.new.self c.self.inside.sure c.self.inside.records c.decide_on.new.journal.count c.self.inside.limits) history x × (x ≡ history ++ c.new-in-Ok-false.result.items) × StandFor s.records (g.D.Disk.view s.disk).files x) c.self.view_is
    (λ history t held. (
      history ++ [],
      decided_mends old new c.self.inside.journal c.decide_on.new.journal (store_of c.self.inside.disk c.self.inside.index c.self.inside.flight c.self.inside.sure c.self.inside.records c.self.inside.journal.count c.self.inside.limits) (store_of c.decide_on.new.disk c.decide_on.new.index c.take.new.self c.self.inside.sure c.self.inside.records c.decide_on.new.journal.count c.self.inside.limits) c.self.inside.books c.decide_on.new.books c.self.inside.sure c.self.invariant f there
          c.decide_on.ensures.goes_on c.decide_on.ensures.file c.decide_on.ensures.limit [] (inl refl)
          (λ history t kept. subst (λ (b : Bool). IsKept new c.decide_on.new.journal c.decide_on.new.index None c.decide_on.new.books false (history ++ given b c.deref.result.now)) c.in-Ok-false.field-0-test (c.in-Ok-false.ensures.decided history t kept))
          c.decide_on.ensures.stays refl (ap (option_map seen_flight) c.take.ensures.after) history t held,
      ap (λ (l : List Push). history ++ l) (sym c.new-in-Ok-false.ensures.items),
      decided_read old new c.self.inside.journal c.decide_on.new.journal (store_of c.self.inside.disk c.self.inside.index c.self.inside.flight c.self.inside.sure c.self.inside.records c.self.inside.journal.count c.self.inside.limits) (store_of c.decide_on.new.disk c.decide_on.new.index c.take.new.self c.self.inside.sure c.self.inside.records c.decide_on.new.journal.count c.self.inside.limits) c.self.inside.books c.decide_on.new.books c.self.inside.sure c.self.invariant f there
          c.decide_on.ensures.goes_on c.decide_on.ensures.file c.decide_on.ensures.limit [] (inl refl)
          (λ history t kept. subst (λ (b : Bool). IsKept new c.decide_on.new.journal c.decide_on.new.index None c.decide_on.new.books false (history ++ given b c.deref.result.now)) c.in-Ok-false.field-0-test (c.in-Ok-false.ensures.decided history t kept))
          (λ history t kept. subst (λ (b : Bool). StandFor c.self.inside.journal.limit old.files (history ++ given b c.deref.result.now)) c.in-Ok-false.field-0-test (c.in-Ok-false.ensures.stood history t kept))
          history t held,
    ))

pub returns-in-Ok-false-clause-index : goal.returns-in-Ok-false-clause-index
returns-in-Ok-false-clause-index g c t =
    let f : FlightView = record { entry = c.in-Some.flight.entry; pushes = c.deref.result.now } in
    let there : option_map seen_flight c.self.inside.flight ≡ Some f = flight_there c.self.inside.flight c.take.result c.in-Some.flight c.deref.result.now c.take.ensures.value c.in-Some.is c.deref.ensures.value in
    let before = store_of c.self.inside.disk c.self.inside.index c.self.inside.flight c.self.inside.sure c.self.inside.records c.self.inside.journal.count c.self.inside.limits in
    let after = store_of c.decide_on.new.disk c.decide_on.new.index c.take.new.self c.self.inside.sure c.self.inside.records c.decide_on.new.journal.count c.self.inside.limits in
    subst (λ s. TakesFlight s after) c.self.view_is (takes_of before after f there (c.in-Ok-false.ensures.took (subst (λ s. Tells (g.D.Disk.view s.disk)) (sym c.self.view_is) t)))

pub returns-in-Ok-false-clause-end : goal.returns-in-Ok-false-clause-end
returns-in-Ok-false-clause-end g c =
    omega (arith, (subst (λ (b : Bool). end_of c.decide_on.new.index.entries ≡ end_of c.self.inside.index.entries + length (given b c.deref.result.now)) c.in-Ok-false.field-0-test c.in-Ok-false.ensures.end), ap (λ s. end_of s.index.entries) c.self.view_is, ap length (sym c.new-in-Ok-false.ensures.items))

-- ---- that couldn't be found out

pub invariant_of-self-in-Err : goal.invariant_of-self-in-Err
invariant_of-self-in-Err g c =
    let old = g.D.Disk.view c.self.inside.disk in
    let new = g.D.Disk.view c.decide_on.new.disk in
    let f : FlightView = record { entry = c.in-Some.flight.entry; pushes = c.deref.result.now } in
    let there : option_map seen_flight c.self.inside.flight ≡ Some f = flight_there c.self.inside.flight c.take.result c.in-Some.flight c.deref.result.now c.take.ensures.value c.in-Some.is c.deref.ensures.value in
    subst (λ (o : Option FlightView). Invariant new c.decide_on.new.journal c.decide_on.new.index o c.decide_on.new.books c.self.inside.sure c.self.inside.records) (sym (same_pushes c.in-Some.flight c.deref.result.now c.deref.ensures.value))
    (doubted_invariant old new c.self.inside.journal c.decide_on.new.journal (store_of c.self.inside.disk c.self.inside.index c.self.inside.flight c.self.inside.sure c.self.inside.records c.self.inside.journal.count c.self.inside.limits) (store_of c.decide_on.new.disk c.decide_on.new.index (Some c.in-Some.flight) c.self.inside.sure c.self.inside.records c.decide_on.new.journal.count c.self.inside.limits) c.self.inside.books c.decide_on.new.books c.self.inside.sure c.self.invariant f there
    c.decide_on.ensures.goes_on c.decide_on.ensures.file c.decide_on.ensures.limit c.in-Err.ensures.doubted (ap (λ j. j.sure) c.in-Err.ensures.unsure) c.in-Err.ensures.same.0)

pub returns-in-Err-clause-mended : goal.returns-in-Err-clause-mended
returns-in-Err-clause-mended g c =
    let old = g.D.Disk.view c.self.inside.disk in
    let new = g.D.Disk.view c.decide_on.new.disk in
    let f : FlightView = record { entry = c.in-Some.flight.entry; pushes = c.deref.result.now } in
    let there : option_map seen_flight c.self.inside.flight ≡ Some f = flight_there c.self.inside.flight c.take.result c.in-Some.flight c.deref.result.now c.take.ensures.value c.in-Some.is c.deref.ensures.value in
    subst (λ s. (history : List Push) → Tells (g.D.Disk.view s.disk) → HasHistory (g.D.Disk.view s.disk) s history
    → (x : List Push) × IsMended (g.D.Disk.view s.disk) new s (store_of c.decide_on.new.disk c.decide_on.new.index (Some c.in-Some.flight) c.self.inside.sure c.self.inside.records c.decide_on.new.journal.count c.self.inside.limits) history x × Unit {0} × Unit {0}) c.self.view_is
    (λ history t held. (
      history,
      doubted_mends old new c.self.inside.journal c.decide_on.new.journal (store_of c.self.inside.disk c.self.inside.index c.self.inside.flight c.self.inside.sure c.self.inside.records c.self.inside.journal.count c.self.inside.limits) (store_of c.decide_on.new.disk c.decide_on.new.index (Some c.in-Some.flight) c.self.inside.sure c.self.inside.records c.decide_on.new.journal.count c.self.inside.limits) c.self.inside.books c.decide_on.new.books c.self.inside.sure c.self.invariant f there
          c.decide_on.ensures.goes_on c.decide_on.ensures.file c.decide_on.ensures.limit c.in-Err.ensures.doubted c.decide_on.ensures.stays refl (same_pushes c.in-Some.flight c.deref.result.now c.deref.ensures.value) history t held,
      tt,
      tt,
    ))

pub returns-in-Err-clause-index : goal.returns-in-Err-clause-index
returns-in-Err-clause-index g c t =
    let before = store_of c.self.inside.disk c.self.inside.index c.self.inside.flight c.self.inside.sure c.self.inside.records c.self.inside.journal.count c.self.inside.limits in
    let after = store_of c.decide_on.new.disk c.decide_on.new.index (Some c.in-Some.flight) c.self.inside.sure c.self.inside.records c.decide_on.new.journal.count c.self.inside.limits in
    subst (λ s. TakesFlight s after) c.self.view_is
    (inl (record { entries = c.in-Err.ensures.same.0; greatest = c.in-Err.ensures.same.1; count = ap (λ j. j.count) c.in-Err.ensures.unsure }))
