use Rattle.std.proofs.Common.{◌≤◌, ◌<◌, ◌^◌, ◌++◌, ap, sym, ◌∙◌, subst, refl, inl, inr, Some, None, Bool, List, true, false, length, arith}
use Rattle.std.proofs.Common.{Err, Global, Vec}
use Rattle.std.specs.Prelude.{Option, IsErrOf, is_none}
use Rattle.history_files.specs.declared.fault.FilesFault.TheVariants as fault
use Rattle.std.proofs.lemmas.Bool.{false≢true}
use Rattle.std.specs.Option.{option_map}
use Rattle.disk_trait.specs.Disk.{Leads, Tells}
use Rattle.disk_trait.proofs.Steps.{still}
use Rattle.profile_model.specs.declared.push.Push.{Push}
use Rattle.history_files.specs.Keeps.{most_pushes}
use Rattle.metastore_index.specs.Entries.{IndexView, end_of}
use Rattle.store_core.specs.Store.{FlightView, HasHistory, Invariant, IsBehind, StoreView}
use Rattle.store_core.specs.Changes.{CanPut, HasOneMore, HasSameIndex, IsAdded, IsNotAdded, LeavesAllBut, LeavesOthers}
use Rattle.store_core.proofs.IndexLemmas.{behind_made, ends_short, one_more_put, same_put, short_made}
use Rattle.store_core.proofs.OtherLemmas.{leaves_still, others_still}
use Rattle.store_core.proofs.AddLemmas.{made_invariant, put_added, put_invariant, put_not_added, sure_has}
use Rattle.store_core.proofs.StoreLemmas.{seen_flight, store_of}
use Rattle.store_core.proofs.store.Store.put.Goals as goal

pub invariant_of-self : goal.invariant_of-self
invariant_of-self g c =
    let before : StoreView g.row.D.Denot = store_of c.self.inside.disk c.self.inside.index c.self.inside.flight c.self.inside.sure c.self.inside.records c.self.inside.journal.count c.self.inside.limits in
    made_invariant (g.D.Disk.view c.self.inside.disk) c.self.inside.journal before c.make_room.new.index c.self.inside.books c.make_room.new.books c.self.inside.sure c.self.invariant
    (ap (λ s. s.sure) c.self.view_is ∙ c.requires.sure) c.make_room.ensures.index c.make_room.ensures.books

pub put_on-requires-clause-kept : goal.put_on-requires-clause-kept
put_on-requires-clause-kept g c =
    let before : StoreView g.row.D.Denot = store_of c.self.inside.disk c.self.inside.index c.self.inside.flight c.self.inside.sure c.self.inside.records c.self.inside.journal.count c.self.inside.limits in
    sure_has (g.D.Disk.view c.self.inside.disk) c.self.inside.journal before c.make_room.new.index c.self.inside.books c.make_room.new.books c.self.inside.sure c.self.invariant
    (ap (λ s. s.sure) c.self.view_is ∙ c.requires.sure) c.make_room.ensures.index c.make_room.ensures.books

pub invariant_of-self-in-Ok : goal.invariant_of-self-in-Ok
invariant_of-self-in-Ok g c =
    let view = g.D.Disk.view in
    let behind : IsBehind c.self.inside.index.entries (record { entry = c.args.entry.now; pushes = c.args.pushes.items }) =
    subst (λ s. IsBehind s.index.entries (record { entry = c.args.entry.now; pushes = c.args.pushes.items })) (sym c.self.view_is) c.requires.behind in
    let old = view c.self.inside.disk in
    let new = view c.put_on.new.disk in
    let before : StoreView g.row.D.Denot = store_of c.self.inside.disk c.self.inside.index c.self.inside.flight c.self.inside.sure c.self.inside.records c.self.inside.journal.count c.self.inside.limits in
    let is_sure = ap (λ s. s.sure) c.self.view_is ∙ c.requires.sure in
    let few : length c.deref-2.result.now ≤ most_pushes = subst (λ (l : List Push). length l ≤ most_pushes) (sym c.deref-2.ensures.value) c.requires.few in
    subst (λ (b : Bool). Invariant new c.put_on.new.journal c.put_on.new.index (option_map seen_flight c.self.inside.flight) c.put_on.new.books b c.self.inside.records) (sym is_sure)
    (subst (λ (o : Option FlightView). Invariant new c.put_on.new.journal c.put_on.new.index o c.put_on.new.books true c.self.inside.records) (sym (c.self.invariant.settled is_sure))
    (put_invariant old c.self.inside.journal before c.make_room.new.index c.self.inside.books c.make_room.new.books c.self.inside.sure c.self.invariant is_sure c.make_room.ensures.index c.make_room.ensures.books
    new c.put_on.new.journal c.put_on.new.index c.put_on.new.books c.args.entry.now c.args.bytes.now c.deref-2.result.now c.put_on.ensures.goes_on c.put_on.ensures.file c.put_on.ensures.limit
    (subst (λ s. (history : List Push) → Tells (view s.disk) → HasHistory (view s.disk) s history → CanPut s.index c.args.entry.now c.args.bytes.now history c.deref-2.result.now) (sym c.self.view_is)
    (subst (λ (l : List Push). (history : List Push) → Tells (view c.args.self.now.disk) → HasHistory (view c.args.self.now.disk) c.args.self.now history → CanPut c.args.self.now.index c.args.entry.now c.args.bytes.now history l) (sym c.deref-2.ensures.value) c.requires.can))
    None true c.in-Ok.ensures.sure (λ is. refl) (omega arith)
    (ends_short c.make_room.new.index.entries c.put_on.new.index.entries (record { entry = c.args.entry.now; pushes = c.args.pushes.items })
    (behind_made c.self.inside.index c.make_room.new.index c.make_room.ensures.index (record { entry = c.args.entry.now; pushes = c.args.pushes.items }) behind) c.in-Ok.ensures.one_more.0)
    tt
    (λ history t kept can. (history ++ c.deref-2.result.now, c.in-Ok.ensures.ok history t kept can))))

pub invariant_of-self-in-Object-1 : goal.invariant_of-self-in-Object-1
invariant_of-self-in-Object-1 g c =
    let view = g.D.Disk.view in
    let old = view c.self.inside.disk in
    let new = view c.put_on.new.disk in
    let before : StoreView g.row.D.Denot = store_of c.self.inside.disk c.self.inside.index c.self.inside.flight c.self.inside.sure c.self.inside.records c.self.inside.journal.count c.self.inside.limits in
    let is_sure = ap (λ s. s.sure) c.self.view_is ∙ c.requires.sure in
    let few : length c.deref-2.result.now ≤ most_pushes = subst (λ (l : List Push). length l ≤ most_pushes) (sym c.deref-2.ensures.value) c.requires.few in
    let none = c.self.invariant.settled is_sure in
    subst (λ (o : Option FlightView). Invariant new c.put_on.new.journal c.put_on.new.index o c.put_on.new.books false c.self.inside.records) (sym none)
    (put_invariant old c.self.inside.journal before c.make_room.new.index c.self.inside.books c.make_room.new.books c.self.inside.sure c.self.invariant is_sure c.make_room.ensures.index c.make_room.ensures.books
    new c.put_on.new.journal c.put_on.new.index c.put_on.new.books c.args.entry.now c.args.bytes.now c.deref-2.result.now c.put_on.ensures.goes_on c.put_on.ensures.file c.put_on.ensures.limit
    (subst (λ s. (history : List Push) → Tells (view s.disk) → HasHistory (view s.disk) s history → CanPut s.index c.args.entry.now c.args.bytes.now history c.deref-2.result.now) (sym c.self.view_is)
    (subst (λ (l : List Push). (history : List Push) → Tells (view c.args.self.now.disk) → HasHistory (view c.args.self.now.disk) c.args.self.now history → CanPut c.args.self.now.index c.args.entry.now c.args.bytes.now history l) (sym c.deref-2.ensures.value) c.requires.can))
    None false (ap (λ j. j.sure) (c.in-Err-Object.ensures.object_sure (ap Err c.in-Err-Object.field-0-is)) ∙ c.self.invariant.journal_sure ∙ ap (λ (o : Option FlightView). is_none o) none) (λ is. absurd (false≢true is)) (omega arith)
    (subst (λ (i : IndexView). end_of i.entries < 2 ^ 63) (sym c.in-Err-Object.ensures.same.0) (short_made c.self.inside.index c.make_room.new.index c.make_room.ensures.index c.self.invariant.short))
    tt
    (λ history t kept can. (history, c.in-Err-Object.ensures.object history t kept can (ap Err c.in-Err-Object.field-0-is))))

pub invariant_of-self-in-Err-Append : goal.invariant_of-self-in-Err-Append
invariant_of-self-in-Err-Append g c =
    let view = g.D.Disk.view in
    let behind : IsBehind c.self.inside.index.entries (record { entry = c.args.entry.now; pushes = c.args.pushes.items }) =
    subst (λ s. IsBehind s.index.entries (record { entry = c.args.entry.now; pushes = c.args.pushes.items })) (sym c.self.view_is) c.requires.behind in
    let old = view c.self.inside.disk in
    let new = view c.put_on.new.disk in
    let before : StoreView g.row.D.Denot = store_of c.self.inside.disk c.self.inside.index c.self.inside.flight c.self.inside.sure c.self.inside.records c.self.inside.journal.count c.self.inside.limits in
    let is_sure = ap (λ s. s.sure) c.self.view_is ∙ c.requires.sure in
    let few : length c.deref-2.result.now ≤ most_pushes = subst (λ (l : List Push). length l ≤ most_pushes) (sym c.deref-2.ensures.value) c.requires.few in
    subst (λ (l : List Push). Invariant new c.put_on.new.journal c.put_on.new.index (Some (record { entry = c.args.entry.now; pushes = l })) c.put_on.new.books false c.self.inside.records) c.deref-2.ensures.value
    (put_invariant old c.self.inside.journal before c.make_room.new.index c.self.inside.books c.make_room.new.books c.self.inside.sure c.self.invariant is_sure c.make_room.ensures.index c.make_room.ensures.books
    new c.put_on.new.journal c.put_on.new.index c.put_on.new.books c.args.entry.now c.args.bytes.now c.deref-2.result.now c.put_on.ensures.goes_on c.put_on.ensures.file c.put_on.ensures.limit
    (subst (λ s. (history : List Push) → Tells (view s.disk) → HasHistory (view s.disk) s history → CanPut s.index c.args.entry.now c.args.bytes.now history c.deref-2.result.now) (sym c.self.view_is)
    (subst (λ (l : List Push). (history : List Push) → Tells (view c.args.self.now.disk) → HasHistory (view c.args.self.now.disk) c.args.self.now history → CanPut c.args.self.now.index c.args.entry.now c.args.bytes.now history l) (sym c.deref-2.ensures.value) c.requires.can))
    (Some (record { entry = c.args.entry.now; pushes = c.deref-2.result.now })) false (c.in-Err-Append.ensures.append_unsure (ap Err c.in-Err-Append.field-0-is)) (λ is. absurd (false≢true is)) few
    (subst (λ (i : IndexView). end_of i.entries < 2 ^ 63) (sym c.in-Err-Append.ensures.same.0) (short_made c.self.inside.index c.make_room.new.index c.make_room.ensures.index c.self.invariant.short))
    (subst (λ (i : IndexView). IsBehind i.entries (record { entry = c.args.entry.now; pushes = c.deref-2.result.now })) (sym c.in-Err-Append.ensures.same.0)
    (behind_made c.self.inside.index c.make_room.new.index c.make_room.ensures.index (record { entry = c.args.entry.now; pushes = c.deref-2.result.now })
    (subst (λ (l : List Push). IsBehind c.self.inside.index.entries (record { entry = c.args.entry.now; pushes = l })) (sym c.deref-2.ensures.value) behind)))
    (λ history t kept can. (history, c.in-Err-Append.ensures.append history t kept can (ap Err c.in-Err-Append.field-0-is))))

pub returns-in-Ok-clause-added : goal.returns-in-Ok-clause-added
returns-in-Ok-clause-added g c =
    let view = g.D.Disk.view in
    let old = view c.self.inside.disk in
    let new = view c.put_on.new.disk in
    let before : StoreView g.row.D.Denot = store_of c.self.inside.disk c.self.inside.index c.self.inside.flight c.self.inside.sure c.self.inside.records c.self.inside.journal.count c.self.inside.limits in
    let after : StoreView g.row.D.Denot = store_of c.put_on.new.disk c.put_on.new.index c.self.inside.flight c.self.inside.sure c.self.inside.records c.put_on.new.journal.count c.self.inside.limits in
    let is_sure = ap (λ s. s.sure) c.self.view_is ∙ c.requires.sure in
    let few : length c.deref-2.result.now ≤ most_pushes = subst (λ (l : List Push). length l ≤ most_pushes) (sym c.deref-2.ensures.value) c.requires.few in
    subst (λ s. (history : List Push) → Tells (view s.disk) → HasHistory (view s.disk) s history → IsAdded (view s.disk) new s after history c.args.pushes.items) c.self.view_is
    (λ history t held.
    subst (λ (l : List Push). IsAdded old new before after history l) c.deref-2.ensures.value (
    put_added old c.self.inside.journal before c.make_room.new.index c.self.inside.books c.make_room.new.books c.self.inside.sure c.self.invariant is_sure c.make_room.ensures.index c.make_room.ensures.books
    new c.put_on.new.journal c.put_on.new.index c.put_on.new.books c.args.entry.now c.args.bytes.now c.deref-2.result.now c.put_on.ensures.goes_on c.put_on.ensures.file c.put_on.ensures.limit
    (subst (λ s. (history : List Push) → Tells (view s.disk) → HasHistory (view s.disk) s history → CanPut s.index c.args.entry.now c.args.bytes.now history c.deref-2.result.now) (sym c.self.view_is)
    (subst (λ (l : List Push). (history : List Push) → Tells (view c.args.self.now.disk) → HasHistory (view c.args.self.now.disk) c.args.self.now history → CanPut c.args.self.now.index c.args.entry.now c.args.bytes.now history l) (sym c.deref-2.ensures.value) c.requires.can))
    after refl refl history t held (λ kept can. c.put_on.ensures.any_moment history t kept can) (c.self.invariant.settled is_sure) (λ kept can. c.in-Ok.ensures.ok history t kept can)))

pub returns-in-Err-Object-clause-not_added : goal.returns-in-Err-Object-clause-not_added
returns-in-Err-Object-clause-not_added g c =
    let view = g.D.Disk.view in
    let old = view c.self.inside.disk in
    let new = view c.put_on.new.disk in
    let before : StoreView g.row.D.Denot = store_of c.self.inside.disk c.self.inside.index c.self.inside.flight c.self.inside.sure c.self.inside.records c.self.inside.journal.count c.self.inside.limits in
    let after : StoreView g.row.D.Denot = store_of c.put_on.new.disk c.put_on.new.index c.self.inside.flight false c.self.inside.records c.put_on.new.journal.count c.self.inside.limits in
    let is_sure = ap (λ s. s.sure) c.self.view_is ∙ c.requires.sure in
    let few : length c.deref-2.result.now ≤ most_pushes = subst (λ (l : List Push). length l ≤ most_pushes) (sym c.deref-2.ensures.value) c.requires.few in
    subst (λ s. (history : List Push) → Tells (view s.disk) → HasHistory (view s.disk) s history → IsErrOf {T = Vec Push Global} (Err fault.Disk) fault.Disk → IsNotAdded (view s.disk) new s after history c.args.pushes.items) c.self.view_is
    (λ history t held failed.
    subst (λ (l : List Push). IsNotAdded old new before after history l) c.deref-2.ensures.value (
    put_not_added old c.self.inside.journal before c.make_room.new.index c.self.inside.books c.make_room.new.books c.self.inside.sure c.self.invariant is_sure c.make_room.ensures.index c.make_room.ensures.books
    new c.put_on.new.journal c.put_on.new.index c.put_on.new.books c.args.entry.now c.args.bytes.now c.deref-2.result.now c.put_on.ensures.goes_on c.put_on.ensures.file c.put_on.ensures.limit
    (subst (λ s. (history : List Push) → Tells (view s.disk) → HasHistory (view s.disk) s history → CanPut s.index c.args.entry.now c.args.bytes.now history c.deref-2.result.now) (sym c.self.view_is)
    (subst (λ (l : List Push). (history : List Push) → Tells (view c.args.self.now.disk) → HasHistory (view c.args.self.now.disk) c.args.self.now history → CanPut c.args.self.now.index c.args.entry.now c.args.bytes.now history l) (sym c.deref-2.ensures.value) c.requires.can))
    after refl refl history t held (λ kept can. c.put_on.ensures.any_moment history t kept can) None (c.self.invariant.settled is_sure) (inl refl) few c.in-Err-Object.ensures.failed
    (λ kept can. c.in-Err-Object.ensures.object history t kept can (ap Err c.in-Err-Object.field-0-is))))

pub returns-in-Err-Append-clause-not_added : goal.returns-in-Err-Append-clause-not_added
returns-in-Err-Append-clause-not_added g c =
    let view = g.D.Disk.view in
    let old = view c.self.inside.disk in
    let new = view c.put_on.new.disk in
    let before : StoreView g.row.D.Denot = store_of c.self.inside.disk c.self.inside.index c.self.inside.flight c.self.inside.sure c.self.inside.records c.self.inside.journal.count c.self.inside.limits in
    let flight : List Push → FlightView = λ l. record { entry = c.args.entry.now; pushes = l } in
    let after : List Push → StoreView g.row.D.Denot = λ l. record (store_of c.put_on.new.disk c.put_on.new.index c.self.inside.flight false c.self.inside.records c.put_on.new.journal.count c.self.inside.limits) { flight = Some (flight l) } in
    let is_sure = ap (λ s. s.sure) c.self.view_is ∙ c.requires.sure in
    let few : length c.deref-2.result.now ≤ most_pushes = subst (λ (l : List Push). length l ≤ most_pushes) (sym c.deref-2.ensures.value) c.requires.few in
    subst (λ s. (history : List Push) → Tells (view s.disk) → HasHistory (view s.disk) s history → IsErrOf {T = Vec Push Global} (Err fault.Disk) fault.Disk → IsNotAdded (view s.disk) new s (after c.args.pushes.items) history c.args.pushes.items) c.self.view_is
    (λ history t held failed.
    subst (λ (l : List Push). IsNotAdded old new before (after l) history l) c.deref-2.ensures.value (
    put_not_added old c.self.inside.journal before c.make_room.new.index c.self.inside.books c.make_room.new.books c.self.inside.sure c.self.invariant is_sure c.make_room.ensures.index c.make_room.ensures.books
    new c.put_on.new.journal c.put_on.new.index c.put_on.new.books c.args.entry.now c.args.bytes.now c.deref-2.result.now c.put_on.ensures.goes_on c.put_on.ensures.file c.put_on.ensures.limit
    (subst (λ s. (history : List Push) → Tells (view s.disk) → HasHistory (view s.disk) s history → CanPut s.index c.args.entry.now c.args.bytes.now history c.deref-2.result.now) (sym c.self.view_is)
    (subst (λ (l : List Push). (history : List Push) → Tells (view c.args.self.now.disk) → HasHistory (view c.args.self.now.disk) c.args.self.now history → CanPut c.args.self.now.index c.args.entry.now c.args.bytes.now history l) (sym c.deref-2.ensures.value) c.requires.can))
    (after c.deref-2.result.now) refl refl history t held (λ kept can. c.put_on.ensures.any_moment history t kept can) (Some (flight c.deref-2.result.now)) refl (inr refl) few c.in-Err-Append.ensures.failed
    (λ kept can. c.in-Err-Append.ensures.append history t kept can (ap Err c.in-Err-Append.field-0-is))))

pub returns-in-Ok-clause-one_more : goal.returns-in-Ok-clause-one_more
returns-in-Ok-clause-one_more g c =
    let before = store_of c.self.inside.disk c.self.inside.index c.self.inside.flight c.self.inside.sure c.self.inside.records c.self.inside.journal.count c.self.inside.limits in
    let after = store_of c.put_on.new.disk c.put_on.new.index c.self.inside.flight c.self.inside.sure c.self.inside.records c.put_on.new.journal.count c.self.inside.limits in
    subst (λ s. HasOneMore s after c.args.entry.now) c.self.view_is (one_more_put before after c.make_room.new.index c.make_room.ensures.index c.args.entry.now c.in-Ok.ensures.one_more)

pub returns-in-Err-Object-clause-same : goal.returns-in-Err-Object-clause-same
returns-in-Err-Object-clause-same g c =
    let before = store_of c.self.inside.disk c.self.inside.index c.self.inside.flight c.self.inside.sure c.self.inside.records c.self.inside.journal.count c.self.inside.limits in
    let after = store_of c.put_on.new.disk c.put_on.new.index c.self.inside.flight false c.self.inside.records c.put_on.new.journal.count c.self.inside.limits in
    subst (λ s. HasSameIndex s after) c.self.view_is (same_put before after c.make_room.new.index c.make_room.ensures.index c.in-Err-Object.ensures.same.0 c.in-Err-Object.ensures.same.1)

pub returns-in-Err-Append-clause-same : goal.returns-in-Err-Append-clause-same
returns-in-Err-Append-clause-same g c =
    let before = store_of c.self.inside.disk c.self.inside.index c.self.inside.flight c.self.inside.sure c.self.inside.records c.self.inside.journal.count c.self.inside.limits in
    let after = record (store_of c.put_on.new.disk c.put_on.new.index c.self.inside.flight false c.self.inside.records c.put_on.new.journal.count c.self.inside.limits) { flight = Some (record { entry = c.args.entry.now; pushes = c.args.pushes.items }) } in
    subst (λ s. HasSameIndex s after) c.self.view_is (same_put before after c.make_room.new.index c.make_room.ensures.index c.in-Err-Append.ensures.same.0 c.in-Err-Append.ensures.same.1)

pub returns-in_err-make_room-clause-others : goal.returns-in_err-make_room-clause-others
returns-in_err-make_room-clause-others g c =
    let old = g.D.Disk.view c.self.inside.disk in
    subst (λ s. Leads LeavesOthers (g.D.Disk.view s.disk) old) c.self.view_is (others_still old old (still old))

pub returns-in_err-make_room-clause-others_at_each_moment : goal.returns-in_err-make_room-clause-others_at_each_moment
returns-in_err-make_room-clause-others_at_each_moment g c =
    let old = g.D.Disk.view c.self.inside.disk in
    subst (λ s. Leads (LeavesAllBut c.args.entry.now.id) (g.D.Disk.view s.disk) old) c.self.view_is (leaves_still c.args.entry.now.id old)
