-- What an opening reads of a disk.
use Rattle.std.specs.Prelude.{◌≡◌, ℕ, ◌+◌, List, ◌∷◌, ◌++◌, true, None}
use Rattle.disk_trait.specs.declared.disk.FileId.{FileId}
use Rattle.disk_trait.specs.declared.disk.FileId.TheVariants.{Index, Object}
use Rattle.disk_trait.specs.Disk.{DiskView, Files, IsDurable, Leads}
use Rattle.gate_journal.specs.Journal.{JournalView, OthersStay}
use Rattle.metastore_index.specs.declared.entry.Entry.{Entry}
use Rattle.metastore_index.specs.Entries.{IndexView}
use Rattle.profile_model.specs.declared.push.Push.{Push}
use Rattle.push_history.specs.History.{HasBoundedTotals}
use Rattle.tenant_books.specs.Books.{AreBooksOf, BooksView}
use Rattle.history_files.specs.History.{AreHeld, IsObjectOf, StandFor}
use Rattle.store_core.specs.Store.{IsKept}

-- the entries' objects hold a history whose totals are bounded, and these are its books
pub record AreCounted (files : Files) (entries : List Entry) (books : BooksView) (history : List Push) : Type 0 where
  pub held : AreHeld files entries history
  pub totals : HasBoundedTotals history
  pub booked : AreBooksOf books history

-- the first object, from the oldest pushes on, that isn't its entry's, or whose pushes take a tenant's total to its bound
pub record StopsAt (files : Files) (entries : List Entry) (file : FileId) : Type 0 where
  pub before : List Entry
  pub entry : Entry
  pub after : List Entry
  pub earlier : List Push
  pub is : file ≡ Object entry.id
  pub divides : entries ≡ before ++ entry ∷ after
  pub held : AreHeld files before earlier
  pub totals : HasBoundedTotals earlier
  pub stops : (pushes : List Push) → IsObjectOf entry pushes (files (Object entry.id)) → ¬ (HasBoundedTotals (earlier ++ pushes))

-- what was read: the files stood for this history, and a store that has nothing in the air keeps it
pub record IsRead (records : ℕ) (old new : DiskView) (journal : JournalView) (index : IndexView) (books : BooksView) (history : List Push) : Type 0 where
  pub stood : StandFor records old.files history
  pub kept : IsKept new journal index None books true history

-- The index file was brought onto the disk, where it is from now on, and no other file was touched until then. What a crash may
-- leave now stands for this history.
pub record HasDurableIndex (records : ℕ) (old new : DiskView) (history : List Push) : Type 0 where
  pub durable : IsDurable (Index 0) new
  pub others : OthersStay (Index 0) old.files new.files
  pub touches : Leads (OthersStay (Index 0)) old new
  pub stands : (image : Files) → new.images_now image → StandFor records image history
