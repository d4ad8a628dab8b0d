-- What a store keeps.
use Rattle.std.proofs.Common.{◌≡◌, ◌⊎◌, inl, inr, ⊎_elim, ℕ, ◌≤◌, List, [], ◌++◌, length, Bool, true, false, Option, Some, None, refl, sym, ◌∙◌, ap, subst, arith, append-nil}
use Rattle.std.specs.Prelude.{MatchOption}
use Rattle.disk_trait.specs.declared.disk.FileId.TheVariants.{Index}
use Rattle.disk_trait.specs.Disk.{Files, DiskView, Tells, bytes_of}
use Rattle.gate_journal.specs.Journal.{JournalView, list_of}
use Rattle.gate_journal.specs.Slots.{bodies_of}
use Rattle.metastore_index.specs.Entries.{IndexView, end_of}
use Rattle.profile_model.specs.declared.push.Push.{Push}
use Rattle.push_history.specs.History.{front_of}
use Rattle.tenant_books.specs.Books.{BooksView, standing_in}
use Rattle.history_files.specs.History.{AreHeld, HasIndex, StandFor}
use Rattle.history_files.specs.Keeps.{StandForEither}
use Rattle.history_files.specs.Standing.{Holds, IsAtRest, IsInFlight}
use Rattle.history_files.proofs.HeldLemmas.{held_once, length_held}
use Rattle.history_files.proofs.OpenLemmas.{index_reads}
use Rattle.history_files.proofs.RestLemmas.{flies_stand, rests_read, rests_stand}
use Rattle.history_files.proofs.StandLemmas.{lists_divide}
use Rattle.store_core.specs.Store.{FlightView, Invariant, IsKept, StandsWith, in_flight}

-- at rest or in flight, its journal, index and objects hold the history
pub holds_of : (disk : DiskView) (journal : JournalView) (index : IndexView) (flight : Option FlightView) (history : List Push) → StandsWith disk journal index flight history → Holds disk journal index history
holds_of disk journal index None history it = it.holds
holds_of disk journal index (Some flight) history it = it.holds

module _ (disk : DiskView) (journal : JournalView) (index : IndexView) (flight : Option FlightView) (books : BooksView) (sure : Bool) where
  -- what a store keeps is its history
  pub kept_reads : (history : List Push) → Tells disk → IsKept disk journal index flight books sure history → AreHeld disk.files index.entries history
  kept_reads history tells kept = rests_read disk journal index history tells (holds_of disk journal index flight history kept.state)

  pub kept_long : (history : List Push) → Tells disk → IsKept disk journal index flight books sure history → length history ≡ end_of index.entries
  kept_long history tells kept =
      length_held disk.files index.entries history (lists_divide (list_of disk journal) index (holds_of disk journal index flight history kept.state).lists).divide (kept_reads history tells kept)

  module _ (records : ℕ) (it : Invariant disk journal index flight books sure records) where
    -- and is kept
    pub kept_at : (history : List Push) → Tells disk → AreHeld disk.files index.entries history → IsKept disk journal index flight books sure history
    kept_at history tells held =
        let kept = it.told tells in
        subst (λ (h : List Push). IsKept disk journal index flight books sure h) (held_once disk.files index.entries kept.0 history (kept_reads kept.0 tells kept.1) held) kept.1

    pub has_one : Tells disk → (history : List Push) × AreHeld disk.files index.entries history
    has_one tells = let kept = it.told tells in (kept.0, kept_reads kept.0 tells kept.1)

    pub long_as : (history : List Push) → Tells disk → AreHeld disk.files index.entries history → end_of index.entries ≡ length history
    long_as history tells held = sym (kept_long history tells (kept_at history tells held))

    pub front_as : (history : List Push) → Tells disk → AreHeld disk.files index.entries history → (tenant : List ℕ) → (standing_in books tenant).front ≡ front_of history tenant
    front_as history tells held tenant = (kept_at history tells held).booked.front tenant

    pub images_as : (history : List Push) → Tells disk → AreHeld disk.files index.entries history → (image : Files) → disk.images_now image → StandForEither records history (history ++ in_flight flight) image
    images_as history tells held image left = by_flight flight (kept_at history tells held).state
      where
        by_flight : (f : Option FlightView) → StandsWith disk journal index f history → StandForEither records history (history ++ in_flight f) image
        by_flight None state = inl (subst (λ (n : ℕ). StandFor n image history) it.limit (rests_stand disk journal index history state image left))
        by_flight (Some f) state = subst (λ (n : ℕ). StandForEither n history (history ++ f.pushes) image) it.limit (flies_stand disk journal index f.entry history f.pushes state image left)

    -- with nothing in the air its index is what the index file lists
    pub index_as : Tells disk → flight ≡ None → HasIndex records disk.files index × (journal.count ≡ length (bodies_of (bytes_of (disk.files (Index 0)))))
    index_as tells none =
        let kept = it.told tells in
        let rest : IsAtRest disk journal index kept.0 = subst (λ (o : Option FlightView). StandsWith disk journal index o kept.0) none kept.1.state in
        index_reads records disk journal index it.file it.limit rest.holds.within rest.holds.lists rest.settled
