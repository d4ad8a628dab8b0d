-- A store with its spine, as contracts see it, and what it keeps.
use Rattle.std.specs.Prelude.{◌≡◌, ◌⊎◌, ℕ, ◌≤◌, List, [], length, replicate, None}
use Rattle.std.specs.List.{All}
use mathlib.Core.List.{IsPrefix}
use Rattle.disk_trait.specs.Disk.{DiskView, Tells}
use Rattle.metastore_index.specs.Entries.{end_of}
use Rattle.profile_model.specs.declared.push.Push.{Push}
use Rattle.tenant_books.specs.Limits.{LimitsView}
use Rattle.history_files.specs.Keeps.{Start, most_pushes}
use Rattle.history_pass.specs.declared.view.Mark.{Mark}
use Rattle.store_core.specs.Store.{IsFull, IsKeeping, StoreView}

pub record HoldView (D : Type 0) : Type 0 where
  pub store : StoreView D
  -- the history, how often the disk has failed, and 1 where the index was found full
  pub mark : Mark

-- what a run of a store has from its start on: where it began, what has to hold for its disk to tell, and what its store was
-- opened with
pub record Run : Type 1 where
  pub start : Start
  pub tells : Type 0
  pub records : ℕ
  pub limits : LimitsView

-- a run of nothing, of a disk of which nothing is known
abbrev pub no_run : Run
no_run = record {
  start = record { moment = 0; faults = 0; history = [] };
  tells = ⊥;
  records = 0;
  limits = record { fallback = 0; tenants = [] };
}

-- a run over a store of whose disk nothing is known: that its pushes are these isn't claimed, only how many there are
abbrev pub run_over : {D : Type 0} → StoreView D → Run
run_over store = record {
  start = record { moment = 0; faults = 0; history = replicate (end_of store.index.entries) (record { tenant = []; profiles = [] }) };
  tells = ⊥;
  records = store.records;
  limits = store.limits;
}

-- a flight is the pushes of one settling at most; it is told with the history behind which it stands
abbrev pub AreFew : List (List Push × List Push) → Type 0
AreFew flights = All (λ flight. length flight.1 ≤ most_pushes) flights

-- The store has kept this history since the start, whichever flights there were.
pub record HasKept {D : Type 0} (start : Start) (disk : DiskView) (store : StoreView D) (history : List Push) : Type 0 where
  pub flights : List (List Push × List Push)
  pub few : AreFew flights
  pub keeps : IsKeeping start flights disk store history

-- A store and the list of its spine, which is the history: it begins with the run's, and has as many pushes as the index. Where
-- the disk is known to tell, it is what the files hold, and was kept since the start.
pub record AreTied {D : Type 0} (run : Run) (disk : DiskView) (store : StoreView D) (list : List Push) : Type 0 where
  pub tells : run.tells → Tells disk
  pub records : store.records ≡ run.records
  pub limits : store.limits ≡ run.limits
  pub begins : IsPrefix run.start.history list
  pub long : length list ≡ end_of store.index.entries
  pub kept : run.tells → HasKept run.start disk store list

-- no further record can be taken, and none is in the air
pub record IsAtEnd {D : Type 0} (store : StoreView D) : Type 0 where
  pub full : IsFull store
  pub lands : store.flight ≡ None

-- a store and its spine: the spine's numbers are the disk's count of faults, and 1 where the index was found full
pub record IsHold {D : Type 0} (run : Run) (disk : DiskView) (store : StoreView D) (mark : Mark) : Type 0 where
  pub tied : AreTied run disk store mark.list
  pub faults : mark.faults ≡ disk.faults
  pub full : (mark.full ≡ 0) ⊎ ((mark.full ≡ 1) × (run.tells → IsAtEnd store))
