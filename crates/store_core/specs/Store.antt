-- A store as contracts see it, and what it is to its disk.
use Rattle.std.specs.Prelude.{◌≡◌, ◌⊎◌, ℕ, ◌+◌, ◌-◌, ◌^◌, ◌<◌, ◌≤◌, Bool, true, false, List, [], ◌++◌, length, Option, Some, None, Contains, IfSome, MatchOption, is_none}
use Rattle.disk_trait.specs.declared.disk.FileId.TheVariants.{Index}
use Rattle.disk_trait.specs.Disk.{DiskView, Tells}
use Rattle.gate_journal.specs.Journal.{JournalView}
use Rattle.metastore_index.specs.declared.entry.Entry.{Entry}
use Rattle.metastore_index.specs.Entries.{IndexView, end_of}
use Rattle.profile_model.specs.declared.push.Push.{Push}
use Rattle.tenant_books.specs.Books.{AreBooksOf, BooksView}
use Rattle.tenant_books.specs.Limits.{LimitsView}
use Rattle.history_files.specs.History.{AreHeld}
use Rattle.history_files.specs.Keeps.{Keeping, Start, most_pushes}
use Rattle.history_files.specs.Standing.{IsAtRest, IsInFlight, NoneFrom}

-- a record whose append met a fault, and the pushes that it would bring
pub record FlightView : Type 0 where
  pub entry : Entry
  pub pushes : List Push

-- a store, as contracts see it
pub record StoreView (D : Type 0) : Type 0 where
  pub disk : D
  pub index : IndexView
  -- what may turn out to be kept
  pub flight : Option FlightView
  -- whether nothing is to be mended
  pub sure : Bool
  -- how many records the index file may have, and has
  pub records : ℕ
  pub count : ℕ
  -- what each tenant's values may come to
  pub limits : LimitsView

-- the pushes that may turn out to be kept
abbrev pub in_flight : Option FlightView → List Push
in_flight None = []
in_flight (Some flight) = flight.pushes

-- the store's history: the pushes that its live objects hold
abbrev pub HasHistory : {D : Type 0} → DiskView → StoreView D → List Push → Type 0
HasHistory disk store history = AreHeld disk.files store.index.entries history

-- a mend leaves the history, or the history with the flight behind it
abbrev pub Mends : List Push → Option FlightView → List Push → Type 0
Mends history flight next = (next ≡ history) ⊎ (next ≡ history ++ in_flight flight)

-- the pushes of a flight that came to the history, and none where it didn't
abbrev pub given : Bool → List Push → List Push
given true pushes = pushes
given false pushes = []

-- The index file has as many records as it may have, or the index has no number left for a further object, or none for the
-- pushes of a settling.
abbrev pub HasNoRoom : ℕ → ℕ → IndexView → Type 0
HasNoRoom records count index = (records ≤ count) ⊎ ((2 ^ 63 ≤ index.greatest + 1) ⊎ (2 ^ 63 < end_of index.entries + 65))

-- no further record can be taken
abbrev pub IsFull : {D : Type 0} → StoreView D → Type 0
IsFull store = HasNoRoom store.records store.count store.index

-- its index has numbers for the pushes of one settling, and for their object
pub record HasNumbers {D : Type 0} (store : StoreView D) : Type 0 where
  pub pushes : end_of store.index.entries + most_pushes < 2 ^ 63
  pub object : store.index.greatest + 1 < 2 ^ 63

-- Since a start the store has kept its history, and no other flight was in the air than these. A flight is the pushes that a
-- settle was to keep when the disk failed, and stands behind the history of then: each is told as that history and its pushes.
pub record IsKeeping {D : Type 0} (start : Start) (flights : List (List Push × List Push)) (disk : DiskView) (store : StoreView D) (history : List Push) : Type 0 where
  pub has : HasHistory disk store history
  pub keeping : Keeping store.records start (λ past flight. Contains flights (past, flight)) disk history (in_flight store.flight)

-- ---- what a store keeps

-- at rest, or with its flight in the air
abbrev pub StandsWith : DiskView → JournalView → IndexView → Option FlightView → List Push → Type 0
StandsWith disk journal index flight history =
    MatchOption flight (IsAtRest disk journal index history) (λ flight. IsInFlight disk journal index flight.entry history flight.pushes)

-- the flight's entry is of level 0 and over the numbers behind those of these entries, as many as there are pushes
pub record IsBehind (entries : List Entry) (flight : FlightView) : Type 0 where
  pub level : flight.entry.level ≡ 0
  pub from : flight.entry.lo ≡ end_of entries
  pub until : flight.entry.hi ≡ flight.entry.lo + length flight.pushes
  pub short : flight.entry.hi < 2 ^ 63

-- where the disk tells
pub record IsKept (disk : DiskView) (journal : JournalView) (index : IndexView) (flight : Option FlightView) (books : BooksView) (sure : Bool) (history : List Push) : Type 0 where
  pub state : StandsWith disk journal index flight history
  pub booked : AreBooksOf books history
  -- no object has an id that is still to come
  pub none : sure ≡ true → NoneFrom (index.greatest + 1) disk.files

-- always
pub record Invariant (disk : DiskView) (journal : JournalView) (index : IndexView) (flight : Option FlightView) (books : BooksView) (sure : Bool) (records : ℕ) : Type 0 where
  pub file : journal.file ≡ Index 0
  pub limit : journal.limit ≡ records
  pub journal_sure : journal.sure ≡ is_none flight
  pub settled : sure ≡ true → flight ≡ None
  pub few : length (in_flight flight) ≤ most_pushes
  pub short : end_of index.entries < 2 ^ 63
  pub behind : IfSome flight (IsBehind index.entries)
  pub bound : records ≤ 2 ^ 57
  pub told : Tells disk → (history : List Push) × IsKept disk journal index flight books sure history
