-- What calls make of a store.
use Rattle.std.specs.Prelude.{◌≡◌, ◌≢◌, ◌⊎◌, ◌==◌, ℕ, ◌+◌, ◌<◌, ◌^◌, Bool, true, false, List, [], ◌++◌, length, Contains, Some, None}
use Rattle.disk_trait.specs.declared.disk.FileId.{FileId}
use Rattle.disk_trait.specs.declared.disk.FileId.TheVariants.{Index, LimitsFile, Object, Root}
use Rattle.disk_trait.specs.Disk.{DiskView, Files, Leads}
use Rattle.metastore_index.specs.declared.entry.Entry.{Entry}
use Rattle.metastore_index.specs.Entries.{Becomes, IndexView, end_of}
use Rattle.profile_model.specs.declared.push.Push.{Push}
use Rattle.push_history.specs.History.{HasBoundedTotals}
use Rattle.history_files.specs.History.{IsBounded, IsObjectOf, StandFor}
use Rattle.history_files.specs.Keeps.{StandForEither, Start}
use Rattle.history_files.specs.Standing.{LosesSpares, Turns, is_spare, is_spare_file}
use Rattle.store_core.specs.Store.{FlightView, HasHistory, IsKeeping, Mends, StoreView, in_flight}

-- a store's own files: its index file and the objects
abbrev pub is_store_file : FileId → Bool
is_store_file (Index n) = n == 0
is_store_file (Object id) = true
is_store_file Root = false
is_store_file LimitsFile = false

-- no other file is touched
abbrev pub LeavesOthers : Files → Files → Type 0
LeavesOthers before image = (file : FileId) → is_store_file file ≡ false → image file ≡ before file

-- no file is touched but the index file, and the object of this id
abbrev pub LeavesAllBut : ℕ → Files → Files → Type 0
LeavesAllBut id before image = (file : FileId) → file ≢ Index 0 → file ≢ Object id → image file ≡ before file

-- no file is touched but the index file, and objects that are none of these entries', which may go
abbrev pub OnlyClears : List Entry → Files → Files → Type 0
OnlyClears entries before image = (file : FileId) → file ≢ Index 0 → (image file ≡ before file) ⊎ ((is_spare_file file entries ≡ true) × (image file ≡ None))

-- no object is there that isn't live
abbrev pub HasNoSpares : {D : Type 0} → DiskView → StoreView D → Type 0
HasNoSpares disk store = (id : ℕ) → is_spare id store.index.entries ≡ true → disk.files (Object id) ≡ None

-- what was kept since any start is kept still, whichever the flights since then were
abbrev pub KeepsOn : {D : Type 0} → DiskView → DiskView → StoreView D → StoreView D → List Push → List Push → Type 0
KeepsOn old new before after history next = (start : Start) (flights : List (List Push × List Push)) → IsKeeping start flights old before history → IsKeeping start flights new after next

-- the index is as before, and has as many records
pub record HasSameIndex {D : Type 0} (before after : StoreView D) : Type 0 where
  pub entries : after.index.entries ≡ before.index.entries
  pub greatest : after.index.greatest ≡ before.index.greatest
  pub count : after.count ≡ before.count

-- one entry came to it, by one record
pub record HasOneMore {D : Type 0} (before after : StoreView D) (entry : Entry) : Type 0 where
  pub becomes : Becomes before.index.entries entry after.index.entries
  pub greatest : after.index.greatest ≡ entry.id
  pub count : after.count ≡ before.count + 1

-- the entry that a store gives to pushes behind its history: of level 0, over their numbers, with the next id
pub record IsNextEntry {D : Type 0} (store : StoreView D) (pushes : List Push) (entry : Entry) : Type 0 where
  pub level : entry.level ≡ 0
  pub id : entry.id ≡ store.index.greatest + 1
  pub from : entry.lo ≡ end_of store.index.entries
  pub until : entry.hi ≡ end_of store.index.entries + length pushes

-- nothing is in the air, or these pushes, under the entry that the store was to give them
abbrev pub FliesNext : {D : Type 0} → StoreView D → StoreView D → List Push → Type 0
FliesNext before after pushes = (after.flight ≡ None) ⊎ ((flight : FlightView) × (after.flight ≡ Some flight) × (flight.pushes ≡ pushes) × IsNextEntry before pushes flight.entry)

-- none came to it, or the flight's
abbrev pub TakesFlight : {D : Type 0} → StoreView D → StoreView D → Type 0
TakesFlight before after = HasSameIndex before after ⊎ ((flight : FlightView) × (before.flight ≡ Some flight) × HasOneMore before after flight.entry)

-- the numbers of the pushes end there, with or without the flight's
abbrev pub EndsWithFlight : {D : Type 0} → StoreView D → ℕ → Type 0
EndsWithFlight store end = (end ≡ end_of store.index.entries) ⊎ (end ≡ end_of store.index.entries + length (in_flight store.flight))

-- A mend, whole or not. At each moment each image stands for the history, or for that with the flight behind it; what may
-- still turn out to be kept is nothing, or as it was. No file comes, and none goes but objects that aren't live.
pub record IsMended {D : Type 0} (old new : DiskView) (before after : StoreView D) (history next : List Push) : Type 0 where
  pub which : Mends history before.flight next
  pub has : HasHistory new after next
  pub flight : (after.flight ≡ None) ⊎ ((next ≡ history) × (after.flight ≡ before.flight))
  pub leads : Leads (λ before_image image. StandForEither before.records history (history ++ in_flight before.flight) image) old new
  pub fewer : Leads (LosesSpares after.index.entries) old new
  pub keeps : KeepsOn old new before after history next

-- The bytes are the object of an entry of so many pushes, and the entry adds these to the history.
pub record CanPut (index : IndexView) (entry : Entry) (bytes : List ℕ) (history added : List Push) : Type 0 where
  pub bounded : IsBounded entry
  pub pushes : List Push
  pub object : IsObjectOf entry pushes (Some bytes)
  pub turns : (next : List Entry) → Becomes index.entries entry next → Turns entry pushes index.entries next history (history ++ added)
  pub totals : HasBoundedTotals (history ++ added)
  pub short : length (history ++ added) < 2 ^ 63

-- Pushes were kept behind the history, and each image stands for that.
pub record IsAdded {D : Type 0} (old new : DiskView) (before after : StoreView D) (history pushes : List Push) : Type 0 where
  pub has : HasHistory new after (history ++ pushes)
  pub stands : (image : Files) → new.images_now image → StandFor before.records image (history ++ pushes)
  pub leads : Leads (λ before_image image. StandForEither before.records history (history ++ pushes) image) old new
  pub keeps : KeepsOn old new before after history (history ++ pushes)

-- They weren't, and may still turn out to be where they are in the air: they are one flight more, behind this history.
pub record IsNotAdded {D : Type 0} (old new : DiskView) (before after : StoreView D) (history pushes : List Push) : Type 0 where
  pub has : HasHistory new after history
  pub flight : (in_flight after.flight ≡ []) ⊎ (in_flight after.flight ≡ pushes)
  pub leads : Leads (λ before_image image. StandForEither before.records history (history ++ pushes) image) old new
  pub keeps : (start : Start) (flights : List (List Push × List Push)) → Contains flights (history, pushes) → IsKeeping start flights old before history → IsKeeping start flights new after history
