use Rattle.std.proofs.Common.{◌≡◌, ◌+◌, ◌<◌, ◌≤◌, ◌^◌, ◌++◌, ap, sym, ◌∙◌, subst, List, ℕ, length, arith}
use Rattle.std.specs.Prelude.{OnOk}
use Rattle.disk_trait.specs.Disk.{Leads}
use Rattle.metastore_index.specs.Entries.{end_of}
use Rattle.profile_model.specs.declared.push.Push.{Push}
use Rattle.push_history.specs.History.{HasBoundedTotals}
use Rattle.history_files.specs.Keeps.{most_pushes}
use Rattle.store_core.specs.Store.{Invariant}
use Rattle.metastore_index.specs.declared.entry.Entry.{Entry}
use Rattle.store_core.specs.Changes.{CanPut, HasOneMore, IsNextEntry, IsNotAdded, LeavesAllBut}
use Rattle.store_core.proofs.SettleLemmas.{can_put_now, flies_next, if_ok, is_behind, next_entry, on_ok}
use Rattle.store_core.proofs.store.Store.settle_kept.Goals as goal

pub put-requires-clause-can : goal.put-requires-clause-can
put-requires-clause-can g c history t held =
    let view = g.D.Disk.view in
    let now = c.args.self.now in
    let bytes = c.in_ok-bytes.bytes.items in
    let object = c.of_light-object.result in
    let entry = c.entry_of-entry.result in
    let it = subst (λ s. Invariant (view s.disk) c.self.inside.journal s.index s.flight c.self.inside.books s.sure s.records) c.self.view_is c.self.invariant in
    let pushes : object.pushes ≡ c.args.pushes.items = c.of_light-object.ensures.pushes in
    let counted = ap length (sym c.deref.ensures.value) ∙ c.deref.ensures.len in
    let short : length bytes < 2 ^ 32 = omega (arith, counted, c.len-size.ensures, c.if-size-ge-LENGTH_BOUND.false) in
    let long : entry.length ≡ length bytes = c.entry_of-entry.ensures.size ∙ c.len-size.ensures ∙ sym counted in
    let begins : object.lo ≡ end_of now.index.entries = c.of_light-object.ensures.lo ∙ c.end.ensures ∙ ap (λ s. end_of s.index.entries) c.self.view_is in
    subst (λ (l : List ℕ). CanPut now.index entry l history c.into_pushes-pushes.result.1.items) (sym c.deref.ensures.value)
    (subst (λ (l : List Push). CanPut now.index entry bytes history l) (sym c.into_pushes-pushes.ensures.pushes)
    (can_put_now view c.self.inside.journal now c.self.inside.books it c.requires.sure history t held object bytes entry c.in_ok-bytes.ensures long short c.entry_of-entry.ensures.describes c.entry_of-entry.ensures.level
    begins c.requires.numbers
    (subst (λ (l : List Push). length l ≤ most_pushes) (sym pushes) c.requires.few)
    (subst (λ (l : List Push). HasBoundedTotals (history ++ l)) (sym pushes) (c.requires.totals history t held))))

pub put-requires-clause-behind : goal.put-requires-clause-behind
put-requires-clause-behind g c =
    let begins : c.of_light-object.result.lo ≡ end_of c.args.self.now.index.entries = c.of_light-object.ensures.lo ∙ c.end.ensures ∙ ap (λ s. end_of s.index.entries) c.self.view_is in
    is_behind c.args.self.now c.of_light-object.result c.entry_of-entry.result c.into_pushes-pushes.result.1.items (sym c.into_pushes-pushes.ensures.pushes) c.entry_of-entry.ensures.describes c.entry_of-entry.ensures.level
    begins c.requires.numbers (subst (λ (l : List Push). length l ≤ most_pushes) (sym (c.into_pushes-pushes.ensures.pushes ∙ c.of_light-object.ensures.pushes)) c.requires.few)

pub returns-clause-given : goal.returns-clause-given
returns-clause-given g c =
    if_ok c.put.result (λ given. given.items ≡ c.into_pushes-pushes.result.1.items) (λ given. given.items ≡ c.args.pushes.items)
    (λ given is. is ∙ c.into_pushes-pushes.ensures.pushes ∙ c.of_light-object.ensures.pushes) c.put.ensures.given

pub returns-clause-not_added : goal.returns-clause-not_added
returns-clause-not_added g c history t held is =
    let view = g.D.Disk.view in
    subst (λ (l : List Push). IsNotAdded (view c.args.self.now.disk) (view c.put.new.self.disk) c.args.self.now c.put.new.self history l)
    (c.into_pushes-pushes.ensures.pushes ∙ c.of_light-object.ensures.pushes) (c.put.ensures.not_added history t held is)

pub returns-clause-one_more : goal.returns-clause-one_more
returns-clause-one_more g c =
    let entry = c.entry_of-entry.result in
    let begins : c.of_light-object.result.lo ≡ end_of c.args.self.now.index.entries = c.of_light-object.ensures.lo ∙ c.end.ensures ∙ ap (λ s. end_of s.index.entries) c.self.view_is in
    let id : entry.id ≡ c.args.self.now.index.greatest + 1 = omega (arith, c.entry_of-entry.ensures.id, c.next_id.ensures.next, ap (λ s. s.index.greatest) c.self.view_is) in
    on_ok c.put.result (HasOneMore c.args.self.now c.put.new.self entry) ((x : Entry) × IsNextEntry c.args.self.now c.args.pushes.items x × HasOneMore c.args.self.now c.put.new.self x)
    (λ one. (entry, next_entry c.args.self.now c.of_light-object.result entry c.args.pushes.items c.of_light-object.ensures.pushes c.entry_of-entry.ensures.describes c.entry_of-entry.ensures.level id begins, one))
    c.put.ensures.one_more

pub returns-clause-flight : goal.returns-clause-flight
returns-clause-flight g c is =
    let entry = c.entry_of-entry.result in
    let begins : c.of_light-object.result.lo ≡ end_of c.args.self.now.index.entries = c.of_light-object.ensures.lo ∙ c.end.ensures ∙ ap (λ s. end_of s.index.entries) c.self.view_is in
    let id : entry.id ≡ c.args.self.now.index.greatest + 1 = omega (arith, c.entry_of-entry.ensures.id, c.next_id.ensures.next, ap (λ s. s.index.greatest) c.self.view_is) in
    flies_next c.args.self.now c.put.new.self entry c.into_pushes-pushes.result.1.items c.args.pushes.items (c.into_pushes-pushes.ensures.pushes ∙ c.of_light-object.ensures.pushes)
    (next_entry c.args.self.now c.of_light-object.result entry c.args.pushes.items c.of_light-object.ensures.pushes c.entry_of-entry.ensures.describes c.entry_of-entry.ensures.level id begins)
    (c.put.ensures.flight is)

pub returns-clause-others_at_each_moment : goal.returns-clause-others_at_each_moment
returns-clause-others_at_each_moment g c =
    let view = g.D.Disk.view in
    let id : c.entry_of-entry.result.id ≡ c.args.self.now.index.greatest + 1 = omega (arith, c.entry_of-entry.ensures.id, c.next_id.ensures.next, ap (λ s. s.index.greatest) c.self.view_is) in
    subst (λ (n : ℕ). Leads (LeavesAllBut n) (view c.args.self.now.disk) (view c.put.new.self.disk)) id c.put.ensures.others_at_each_moment

pub returns-clause-others_read : goal.returns-clause-others_read
returns-clause-others_read g c t =
    let view = g.D.Disk.view in
    let id : c.entry_of-entry.result.id ≡ c.args.self.now.index.greatest + 1 = omega (arith, c.entry_of-entry.ensures.id, c.next_id.ensures.next, ap (λ s. s.index.greatest) c.self.view_is) in
    subst (λ (n : ℕ). OnOk c.put.result (LeavesAllBut n (view c.args.self.now.disk).files (view c.put.new.self.disk).files)) id (c.put.ensures.others_read t)
