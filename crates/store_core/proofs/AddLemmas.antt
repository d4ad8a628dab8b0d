-- What it makes of a store that pushes are to be kept.
use Rattle.std.proofs.Common.{◌≡◌, ◌⊎◌, inl, inr, ⊎_elim, ℕ, ◌+◌, ◌<◌, ◌≤◌, ◌^◌, List, [], ◌++◌, length, Bool, true, false, Option, Some, None, refl, sym, ◌∙◌, ap, subst, arith}
use Rattle.std.specs.Prelude.{Contains, IfSome, is_none}
use Rattle.std.proofs.lemmas.Bool.{false≢true}
use Rattle.disk_trait.specs.Disk.{Files, DiskView, GoesOn, Leads, Rose, Tells}
use Rattle.gate_journal.specs.Journal.{JournalView}
use Rattle.metastore_index.specs.declared.entry.Entry.{Entry}
use Rattle.metastore_index.specs.Entries.{IndexView, IsTaken, end_of}
use Rattle.profile_model.specs.declared.push.Push.{Push}
use Rattle.tenant_books.specs.Books.{AreBooksOf, BooksView}
use Rattle.history_files.specs.History.{AreHeld, StandFor}
use Rattle.history_files.specs.Keeps.{Keeping, StandForEither, Start, most_pushes}
use Rattle.history_files.proofs.KeepLemmas.{was_doubted, was_kept}
use Rattle.history_files.proofs.RestLemmas.{rests_stand}
use Rattle.store_core.specs.Store.{FlightView, HasHistory, Invariant, IsBehind, IsKeeping, IsKept, StandsWith, StoreView, in_flight}
use Rattle.store_core.specs.Changes.{CanPut, IsAdded, IsNotAdded}
use Rattle.store_core.proofs.IndexLemmas.{short_made}
use Rattle.store_core.proofs.KeptLemmas.{kept_at, kept_reads}
use Rattle.store_core.proofs.RoomLemmas.{kept_made, roomy}

module _ {D : Type 0} (old new : DiskView) (before after : StoreView D) (history pushes : List Push) (goes : GoesOn old new) (records : after.records ≡ before.records)
    (leads : Leads (λ before_image image. StandForEither before.records history (history ++ pushes) image) old new) where
  pub is_added : after.flight ≡ None → HasHistory new after (history ++ pushes) → ((image : Files) → new.images_now image → StandFor before.records image (history ++ pushes))
      → IsAdded old new before after history pushes
  is_added none has stands = record {
    has = has;
    stands = stands;
    leads = leads;
    keeps = λ start flights was. record {
      has = has;
      keeping = subst (λ (n : ℕ). Keeping n start (λ past flight. Contains flights (past, flight)) new (history ++ pushes) (in_flight after.flight)) (sym records)
          (subst (λ (l : List Push). Keeping before.records start (λ past flight. Contains flights (past, flight)) new (history ++ pushes) l) (sym (ap in_flight none))
          (was_kept before.records start (λ past flight. Contains flights (past, flight)) old new history (in_flight before.flight) was.keeping goes pushes leads));
    };
  }

  pub not_added : length pushes ≤ most_pushes → Rose old.faults new.faults → (in_flight after.flight ≡ []) ⊎ (in_flight after.flight ≡ pushes) → HasHistory new after history
      → IsNotAdded old new before after history pushes
  not_added few rise flight has = record {
    has = has;
    flight = flight;
    leads = leads;
    keeps = λ start flights among was. record {
      has = has;
      keeping = subst (λ (n : ℕ). Keeping n start (λ past flight. Contains flights (past, flight)) new history (in_flight after.flight)) (sym records)
          (was_doubted before.records start (λ past flight. Contains flights (past, flight)) old new history (in_flight before.flight) was.keeping goes pushes leads among rise (in_flight after.flight) flight);
    };
  }

-- A sure store, with room for what is to be put.
module _ {D : Type 0} (old : DiskView) (journal : JournalView) (before : StoreView D) (made : IndexView) (books room : BooksView) (sure : Bool)
    (it : Invariant old journal before.index before.flight books sure before.records) (is_sure : sure ≡ true) (same : made ≡ roomy before.index made.spare)
    (booked : (history : List Push) → AreBooksOf books history → AreBooksOf room history) where
  pub sure_none : before.flight ≡ None
  sure_none = it.settled is_sure

  pub sure_kept : (history : List Push) → IsKept old journal before.index before.flight books sure history → IsKept old journal made None room true history
  sure_kept history kept =
      kept_made old journal before.index made same history None books room true
      (subst (λ (b : Bool). IsKept old journal before.index None books b history) is_sure
      (subst (λ (o : Option FlightView). IsKept old journal before.index o books sure history) sure_none kept))
      (booked history kept.booked)

  pub sure_has : Tells old → (history : List Push) × IsKept old journal made None room true history
  sure_has t = let kept = it.told t in (kept.0, sure_kept kept.0 kept.1)

  pub made_takes : (entry : Entry) → IsTaken before.index entry → IsTaken made entry
  made_takes entry taken = subst (λ (i : IndexView). IsTaken i entry) (sym same) (record { later = taken.later; bounded = taken.bounded; fits = taken.fits })

  pub made_can : (entry : Entry) (bytes : List ℕ) (history added : List Push) → CanPut before.index entry bytes history added → CanPut made entry bytes history added
  made_can entry bytes history added can =
      subst (λ (i : IndexView). CanPut i entry bytes history added) (sym same)
      (record { bounded = can.bounded; pushes = can.pushes; object = can.object; turns = can.turns; totals = can.totals; short = can.short })

  pub made_invariant : Invariant old journal made before.flight room sure before.records
  made_invariant = record {
    file = it.file;
    limit = it.limit;
    journal_sure = it.journal_sure;
    settled = it.settled;
    few = it.few;
    short = short_made before.index made same it.short;
    behind = subst (λ (i : IndexView). IfSome before.flight (IsBehind i.entries)) (sym same) it.behind;
    bound = it.bound;
    told = λ t. let kept = it.told t in (kept.0, kept_made old journal before.index made same kept.0 before.flight books room sure kept.1 (booked kept.0 kept.1.booked));
  }

  -- An object and its entry were to be put.
  module _ (new : DiskView) (done : JournalView) (later : IndexView) (took : BooksView) (entry : Entry) (bytes : List ℕ) (pushes : List Push)
      (goes : GoesOn old new) (file : done.file ≡ journal.file) (limit : done.limit ≡ journal.limit)
      (can : (history : List Push) → Tells old → HasHistory old before history → CanPut before.index entry bytes history pushes) where
    kept_of_old : (history : List Push) → Tells old → HasHistory old before history → IsKept old journal made None room true history × CanPut made entry bytes history pushes
    kept_of_old history tells held = (sure_kept history (kept_at old journal before.index before.flight books sure before.records it history tells held), made_can entry bytes history pushes (can history tells held))

    pub put_invariant : (flight : Option FlightView) (after_sure : Bool) → done.sure ≡ is_none flight → (after_sure ≡ true → flight ≡ None) → length (in_flight flight) ≤ most_pushes
        → end_of later.entries < 2 ^ 63 → IfSome flight (IsBehind later.entries)
        → ((history : List Push) → Tells old → IsKept old journal made None room true history → CanPut made entry bytes history pushes → (next : List Push) × IsKept new done later flight took after_sure next)
        → Invariant new done later flight took after_sure before.records
    put_invariant flight after_sure journal_sure settled few short behind becomes = record {
      file = file ∙ it.file;
      limit = limit ∙ it.limit;
      journal_sure = journal_sure;
      settled = settled;
      few = few;
      short = short;
      behind = behind;
      bound = it.bound;
      told = λ t.
          let t-old : Tells old = sym goes.honest ∙ t in
          let kept = it.told t-old in
          let both = kept_of_old kept.0 t-old (kept_reads old journal before.index before.flight books sure kept.0 t-old kept.1) in
          becomes kept.0 t-old both.0 both.1;
    }

    module _ (after : StoreView D) (index : after.index ≡ later) (records : after.records ≡ before.records) (history : List Push) (tells : Tells old) (held : HasHistory old before history)
        (moments : IsKept old journal made None room true history → CanPut made entry bytes history pushes → Leads (λ before_image image. StandForEither journal.limit history (history ++ pushes) image) old new) where
      leads_put : Leads (λ before_image image. StandForEither before.records history (history ++ pushes) image) old new
      leads_put = let both = kept_of_old history tells held in
          subst (λ (n : ℕ). Leads (λ before_image image. StandForEither n history (history ++ pushes) image) old new) it.limit (moments both.0 both.1)

      has_after : (flight : Option FlightView) (after_sure : Bool) (next : List Push) → IsKept new done later flight took after_sure next → HasHistory new after next
      has_after flight after_sure next kept =
          subst (λ (i : IndexView). AreHeld new.files i.entries next) (sym index) (kept_reads new done later flight took after_sure next (goes.honest ∙ tells) kept)

      -- They were.
      pub put_added : after.flight ≡ None → (IsKept old journal made None room true history → CanPut made entry bytes history pushes → IsKept new done later None took true (history ++ pushes))
          → IsAdded old new before after history pushes
      put_added none becomes =
          let both = kept_of_old history tells held in
          let kept = becomes both.0 both.1 in
          is_added old new before after history pushes goes records leads_put none (has_after None true (history ++ pushes) kept)
          (λ image left. subst (λ (n : ℕ). StandFor n image (history ++ pushes)) (limit ∙ it.limit) (rests_stand new done later (history ++ pushes) kept.state image left))

      -- They weren't, and may come to be.
      pub put_not_added : (flight : Option FlightView) → after.flight ≡ flight → (in_flight flight ≡ []) ⊎ (in_flight flight ≡ pushes) → length pushes ≤ most_pushes → Rose old.faults new.faults
          → (IsKept old journal made None room true history → CanPut made entry bytes history pushes → IsKept new done later flight took false history)
          → IsNotAdded old new before after history pushes
      put_not_added flight same which few rise becomes =
          let both = kept_of_old history tells held in
          not_added old new before after history pushes goes records leads_put few rise
          (subst (λ (o : Option FlightView). (in_flight o ≡ []) ⊎ (in_flight o ≡ pushes)) (sym same) which)
          (has_after flight false history (becomes both.0 both.1))
