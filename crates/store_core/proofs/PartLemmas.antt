-- What a store's parts become.
use Rattle.std.proofs.Common.{◌≡◌, ◌≢◌, ◌⊎◌, inl, inr, ℕ, ◌+◌, ◌<◌, ◌≤◌, List, [], ◌∷◌, ◌++◌, length, Bool, true, false, Option, Some, None, refl, sym, ◌∙◌, ap, subst, arith, append-nil}
use Rattle.std.proofs.lemmas.Bool.{false≢true}
use Rattle.std.proofs.lemmas.List.{length_push}
use Rattle.disk_trait.specs.declared.disk.FileId.{FileId}
use Rattle.disk_trait.specs.declared.disk.FileId.TheVariants.{Index, Object}
use Rattle.disk_trait.specs.Disk.{Files, DiskView, Leads, Stays, Tells, bytes_of}
use Rattle.gate_journal.specs.Journal.{JournalView, IsSettled, IsUnsettled, list_of}
use Rattle.gate_journal.specs.Slots.{bodies_of}
use Rattle.metastore_index.specs.declared.entry.Entry.{Entry}
use Rattle.metastore_index.specs.Entries.{IndexView, IsTaken, Becomes}
use Rattle.metastore_index.specs.Taken.{Takes}
use Rattle.profile_model.specs.declared.push.Push.{Push}
use Rattle.tenant_books.specs.Books.{AreBooksOf, BooksView}
use Rattle.history_files.specs.History.{AreHeld, Lists, StandFor}
use Rattle.history_files.specs.Standing.{AllHold, Commits, IsAtRest, IsInFlight, NoneFrom}
use Rattle.history_files.proofs.RestLemmas.{decides_none, decides_some, flies_still}
use Rattle.history_files.proofs.StandLemmas.{lists_once, lists_push, not_index}
use Rattle.store_core.specs.Store.{FlightView, IsKept, Mends}
use Rattle.store_core.specs.Changes.{CanPut}
use Rattle.store_core.proofs.RoomLemmas.{flies_room, roomy}

never : (next : ℕ) (files : Files) → false ≡ true → NoneFrom next files
never next files is = absurd (false≢true is)

-- what an entry in the air leaves is any index that takes it
abbrev flies_into : (disk : DiskView) (journal : JournalView) (index : IndexView) (entry : Entry) (history added : List Push) (it : IsInFlight disk journal index entry history added)
    → (later : IndexView) → Takes index entry later → IsInFlight disk journal index entry history added
flies_into disk journal index entry history added it later takes =
    let bodies = list_of disk journal ++ it.body ∷ [] in
    let same : it.later.entries ≡ later.entries = lists_once bodies it.later later
    (lists_push (list_of disk journal) it.body index it.later entry it.holds.lists it.reads it.bounded it.takes)
    (lists_push (list_of disk journal) it.body index later entry it.holds.lists it.reads it.bounded takes) in
    record {
      holds = it.holds;
      room = it.room;
      body = it.body;
      reads = it.reads;
      bounded = it.bounded;
      unsettled = it.unsettled;
      later = later;
      takes = takes;
      held = subst (λ (es : List Entry). AllHold disk es (history ++ added)) same it.held;
      totals = it.totals;
    }

-- A journal looked whether the append of a flight came through.
module _ (old new : DiskView) (journal done : JournalView) (index made : IndexView) (same : made ≡ roomy index made.spare) (flight : FlightView) (books room : BooksView) (history : List Push)
    (kept : IsKept old journal index (Some flight) books false history) (booked : AreBooksOf room history) (unsure : journal.sure ≡ false) (run : Leads Stays old new) where
  flies : IsInFlight old journal made flight.entry history flight.pushes
  flies = subst (λ (i : IndexView). IsInFlight old journal i flight.entry history flight.pushes) (sym same) (flies_room old journal index made.spare history flight.entry flight.pushes kept.state)

  pub flies_takes : IsTaken made flight.entry
  flies_takes = flies.takes.taken

  -- It couldn't.
  pub doubts : done ≡ journal → ((body : List ℕ) → journal.sure ≡ false → IsUnsettled old journal body → IsUnsettled new done body × (list_of new done ≡ list_of old journal))
      → IsKept new done made (Some flight) room false history
  doubts is unsettled =
      let u = unsettled flies.body unsure flies.unsettled in
      record {
        state = flies_still old new journal done made flight.entry history flight.pushes flies run (ap (λ (j : JournalView). j.file) is) (ap (λ (j : JournalView). j.limit) is)
            (ap (λ (j : JournalView). j.count) is) u.0 u.1;
        booked = booked;
        none = never (made.greatest + 1) new.files;
      }

  -- the slot reads closed: the files stand for the history
  pub reads_against : Tells old → bodies_of (bytes_of (old.files journal.file)) ≡ list_of old journal ++ [] → StandFor journal.limit old.files history
  reads_against tells found =
      let is : bodies_of (bytes_of (old.files (Index 0))) ≡ list_of old journal =
      ap (λ (f : FileId). bodies_of (bytes_of (old.files f))) (sym flies.holds.file) ∙ found ∙ append-nil (list_of old journal) in
      record {
        index = made;
        has = record {
          lists = subst (λ (bs : List (List ℕ)). Lists bs made) (sym is) flies.holds.lists;
          few = omega (arith, ap length is, flies.unsettled.count, flies.holds.within);
        };
        held = flies.holds.held old.files (old.as_read tells);
        totals = flies.holds.totals;
      }

  -- it reads open, with this body: they stand for the history with the flight behind it
  pub reads_for : Tells old → (body : List ℕ) → bodies_of (bytes_of (old.files journal.file)) ≡ list_of old journal ++ body ∷ []
      → ((b : List ℕ) → journal.sure ≡ false → IsUnsettled old journal b → body ≡ b) → StandFor journal.limit old.files (history ++ flight.pushes)
  reads_for tells body found same_body =
      let is : bodies_of (bytes_of (old.files (Index 0))) ≡ list_of old journal ++ flies.body ∷ [] =
      ap (λ (f : FileId). bodies_of (bytes_of (old.files f))) (sym flies.holds.file) ∙ found
      ∙ ap (λ (b : List ℕ). list_of old journal ++ b ∷ []) (same_body flies.body unsure flies.unsettled) in
      record {
        index = flies.later;
        has = record {
          lists = subst (λ (bs : List (List ℕ)). Lists bs flies.later) (sym is)
              (lists_push (list_of old journal) flies.body made flies.later flight.entry flies.holds.lists flies.reads flies.bounded flies.takes);
          few = omega (arith, ap length is, length_push (list_of old journal) flies.body, flies.unsettled.count, flies.room);
        };
        held = flies.held old.files (old.as_read tells);
        totals = flies.totals;
      }

  -- It didn't.
  pub decides_against : done ≡ record journal { count = journal.count + 0; sure = true } → IsSettled new done × (list_of new done ≡ list_of old journal ++ [])
      → IsKept new done made None room false history
  decides_against is settled = record {
    state = decides_none old new journal done made flight.entry history flight.pushes flies run (ap (λ (j : JournalView). j.file) is) (ap (λ (j : JournalView). j.limit) is) settled.0
        (omega (arith, ap (λ (j : JournalView). j.count) is)) (settled.1 ∙ append-nil (list_of old journal));
    booked = booked;
    none = never (made.greatest + 1) new.files;
  }

  -- It did.
  pub decides_for : (body : List ℕ) → done ≡ record journal { count = journal.count + 1; sure = true } → IsSettled new done × (list_of new done ≡ list_of old journal ++ body ∷ [])
      → ((b : List ℕ) → journal.sure ≡ false → IsUnsettled old journal b → body ≡ b)
      → (later : IndexView) → IsTaken made flight.entry × Becomes made.entries flight.entry later.entries × (later.greatest ≡ flight.entry.id)
      → (took : BooksView) → AreBooksOf took (history ++ flight.pushes) → IsKept new done later None took false (history ++ flight.pushes)
  decides_for body is settled found later taken took books-now =
      let takes : Takes made flight.entry later = record { taken = taken.0; becomes = taken.1; greatest = taken.2 } in
      record {
        state = decides_some old new journal done made flight.entry history flight.pushes
            (flies_into old journal made flight.entry history flight.pushes flies later takes) run
            (ap (λ (j : JournalView). j.file) is) (ap (λ (j : JournalView). j.limit) is) settled.0 body (found flies.body unsure flies.unsettled)
            (ap (λ (j : JournalView). j.count) is) settled.1;
        booked = books-now;
        none = never (later.greatest + 1) new.files;
      }

-- An object and its entry are to be written.
module _ (old : DiskView) (journal : JournalView) (index : IndexView) (books : BooksView) (entry : Entry) (bytes : List ℕ) (history added : List Push)
    (kept : IsKept old journal index None books true history) (can : CanPut index entry bytes history added) where
  pub commits_it : (later : IndexView) → Takes index entry later → Commits old journal index later entry bytes history added
  commits_it later takes = record {
    rest = kept.state;
    bounded = can.bounded;
    takes = takes;
    pushes = can.pushes;
    object = can.object;
    turns = can.turns later.entries takes.becomes;
    totals = can.totals;
  }

  module _ (new : DiskView) (done : JournalView) where
    -- They were.
    pub was_put : (later : IndexView) → Takes index entry later → journal.file ≡ Index 0 → IsAtRest new done later (history ++ added)
        → ((file : FileId) → file ≢ Object entry.id → file ≢ journal.file → new.files file ≡ old.files file)
        → (took : BooksView) → AreBooksOf took (history ++ added) → IsKept new done later None took true (history ++ added)
    was_put later takes file rest others took booked = record {
      state = rest;
      booked = booked;
      none = λ sure id le.
          others (Object id) (λ same. differs id (omega (arith, le, takes.greatest)) (the_id id entry.id same)) (λ same. not_index id (sym file ∙ sym same))
          ∙ kept.none refl id (omega (arith, le, takes.greatest, takes.taken.later));
    }
      where
        the_id : (m n : ℕ) → Object m ≡ Object n → m ≡ n
        the_id m n same = cc

        differs : (id : ℕ) → entry.id < id → id ≡ entry.id → ⊥
        differs id more same = absurd (omega (arith, more, same))

    -- The entry wasn't.
    pub was_not_put : IsAtRest new done index history → IsKept new done index None books false history
    was_not_put rest = record { state = rest; booked = kept.booked; none = never (index.greatest + 1) new.files }

    pub may_be_put : IsInFlight new done index entry history added → IsKept new done index (Some (record { entry = entry; pushes = added })) books false history
    may_be_put flies = record { state = flies; booked = kept.booked; none = never (index.greatest + 1) new.files }
