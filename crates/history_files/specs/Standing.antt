-- What a journal, an index and objects are to the disk.
use Rattle.std.specs.Prelude.{◌≡◌, ◌⊎◌, ℕ, ◌+◌, ◌<◌, ◌≤◌, Bool, true, false, not, ◌&&◌, ◌==◌, List, [], ◌∷◌, ◌++◌, length, None, Some, IsSome, ◌↔◌}
use Rattle.disk_trait.specs.declared.disk.FileId.{FileId}
use Rattle.disk_trait.specs.declared.disk.FileId.TheVariants.{Index, Object, Root, LimitsFile}
use Rattle.disk_trait.specs.Disk.{Files, DiskView, IsDurable, Leads, MaybeGone, Stays}
use Rattle.gate_journal.specs.Journal.{JournalView, list_of, IsSettled, IsUnsettled, OthersStay}
use Rattle.metastore_index.specs.declared.entry.Entry.{Entry}
use Rattle.metastore_index.specs.Entries.{IndexView}
use Rattle.metastore_index.specs.Taken.{IsBodyOf, Takes}
use Rattle.profile_model.specs.declared.push.Push.{Push}
use Rattle.push_history.specs.History.{HasBoundedTotals}
use Rattle.segment_file.specs.Objects.{ObjectView}
use Rattle.history_files.specs.History.{AreHeld, HasIndex, HasTimes, IsBounded, IsObjectOf, Lists, StandFor}

-- the entry tells the numbers and the times of an object's pushes
pub record Describes (entry : Entry) (object : ObjectView) : Type 0 where
  pub from : object.lo ≡ entry.lo
  pub until : object.lo + length object.pushes ≡ entry.hi
  pub times : HasTimes entry object.pushes

-- each image has these pushes at the entries
abbrev pub AllHold : DiskView → List Entry → List Push → Type 0
AllHold disk entries history = (image : Files) → disk.images_now image → AreHeld image entries history

-- the journal's list is the index's, and each image has the history at the index's entries
pub record Holds (disk : DiskView) (journal : JournalView) (index : IndexView) (history : List Push) : Type 0 where
  pub file : journal.file ≡ Index 0
  pub within : journal.count ≤ journal.limit
  pub lists : Lists (list_of disk journal) index
  pub held : AllHold disk index.entries history
  pub totals : HasBoundedTotals history

-- and no append of it is in the air
pub record IsAtRest (disk : DiskView) (journal : JournalView) (index : IndexView) (history : List Push) : Type 0 where
  pub holds : Holds disk journal index history
  pub settled : IsSettled disk journal

-- An append of an entry failed: an image has the history, or that with the pushes that the entry adds.
pub record IsInFlight (disk : DiskView) (journal : JournalView) (index : IndexView) (entry : Entry) (history added : List Push) : Type 0 where
  pub holds : Holds disk journal index history
  pub room : journal.count < journal.limit
  pub body : List ℕ
  pub reads : IsBodyOf body entry
  pub bounded : IsBounded entry
  pub unsettled : IsUnsettled disk journal body
  pub later : IndexView
  pub takes : Takes index entry later
  pub held : AllHold disk later.entries (history ++ added)
  pub totals : HasBoundedTotals (history ++ added)

-- Taken in, an entry whose object has these pushes makes one history of another, whatever else the files are.
abbrev pub Turns : Entry → List Push → List Entry → List Entry → List Push → List Push → Type 0
Turns entry pushes old new before after =
    (files : Files) → AreHeld files old before → IsObjectOf entry pushes (files (Object entry.id)) → AreHeld files new after

-- What is to be committed: an entry that the index takes, an object of its pushes, and what it adds to the history.
pub record Commits (disk : DiskView) (journal : JournalView) (index later : IndexView) (entry : Entry) (bytes : List ℕ) (history added : List Push) : Type 0 where
  pub rest : IsAtRest disk journal index history
  pub bounded : IsBounded entry
  pub takes : Takes index entry later
  pub pushes : List Push
  pub object : IsObjectOf entry pushes (Some bytes)
  pub turns : Turns entry pushes index.entries later.entries history (history ++ added)
  pub totals : HasBoundedTotals (history ++ added)

-- no object has an id from that one on
abbrev pub NoneFrom : ℕ → Files → Type 0
NoneFrom next files = (id : ℕ) → next ≤ id → files (Object id) ≡ None

-- whether no entry has the id
abbrev pub is_spare : ℕ → List Entry → Bool
is_spare id [] = true
is_spare id (entry ∷ more) = not (entry.id == id) && is_spare id more

-- whether the file is an object of none of the entries
abbrev pub is_spare_file : FileId → List Entry → Bool
is_spare_file (Object id) entries = is_spare id entries
is_spare_file (Index n) entries = false
is_spare_file Root entries = false
is_spare_file LimitsFile entries = false

-- A run of calls leaves a store over these entries at rest, and its history in each image at each moment.
abbrev pub Spares : List Entry → DiskView → DiskView → Type 0
Spares entries old new =
    (journal : JournalView) (index : IndexView) (history : List Push) → index.entries ≡ entries → IsAtRest old journal index history
    → IsAtRest new journal index history × Leads (λ before image. StandFor journal.limit image history) old new

-- each file is as before that is no object, or is one of these entries
abbrev pub KeepsLive : List Entry → Files → Files → Type 0
KeepsLive entries before after = (file : FileId) → is_spare_file file entries ≡ false → after file ≡ before file

-- each file is as before, or was the object of none of these entries and is gone
abbrev pub LosesSpares : List Entry → Files → Files → Type 0
LosesSpares entries before after = (file : FileId) → (after file ≡ before file) ⊎ ((is_spare_file file entries ≡ true) × (after file ≡ None))

-- each file is as before, or gone
abbrev pub Fewer : Files → Files → Type 0
Fewer before after = (file : FileId) → MaybeGone (before file) (after file)

-- these files stand for what those stand for, or for nothing where those do
abbrev pub StandAlike : ℕ → Files → Files → Type 0
StandAlike records files image = (history : List Push) → StandFor records files history ↔ StandFor records image history

-- files are as before, or stand for this history
abbrev pub SameOrStand : ℕ → List Push → Files → Files → Type 0
SameOrStand records history before image = (image ≡ before) ⊎ StandFor records image history

-- What an opening has read: a journal over the index file, with its index. No other file was changed, and each object
-- that is there is on the disk.
pub record IsPrepared (records : ℕ) (old new : DiskView) (journal : JournalView) (index : IndexView) : Type 0 where
  pub file : journal.file ≡ Index 0
  pub limit : journal.limit ≡ records
  pub within : journal.count ≤ journal.limit
  pub has : HasIndex records old.files index
  pub lists : Lists (list_of new journal) index
  pub settled : IsSettled new journal
  pub others : OthersStay (Index 0) old.files new.files
  pub durable : (id : ℕ) → IsSome (old.files (Object id)) → IsDurable (Object id) new

-- each file that was there was synced, and no more was done
pub record IsSynced (old new : DiskView) : Type 0 where
  pub stays : Leads Stays old new
  pub files : new.files ≡ old.files
  pub durable : (file : FileId) → IsSome (old.files file) → IsDurable file new
