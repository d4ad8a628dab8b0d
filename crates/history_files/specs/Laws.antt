-- What holds of all files and their histories.
use Rattle.std.specs.Prelude.{◌≡◌, ℕ, ◌-◌, ◌≤◌, List, ◌++◌, length, take, drop}
use Rattle.disk_trait.specs.declared.disk.FileId.{FileId}
use Rattle.disk_trait.specs.Disk.{Files}
use Rattle.metastore_index.specs.declared.entry.Entry.{Entry}
use Rattle.metastore_index.specs.Entries.{AreEntries, Becomes, IndexView, end_of}
use Rattle.profile_model.specs.declared.push.Push.{Push}
use Rattle.history_files.specs.History.{HasIndex, IsBlamed, StandFor}
use Rattle.history_files.specs.Standing.{Turns}

-- files stand for one history at most
abbrev pub OneHistory : Type 0
OneHistory = (records : ℕ) (files : Files) (one other : List Push) → StandFor records files one → StandFor records files other → one ≡ other

-- it has as many pushes as the entries of their index say
abbrev pub AsLongAsEntriesSay : Type 0
AsLongAsEntriesSay =
    (records : ℕ) (files : Files) (history : List Push) (index : IndexView) → StandFor records files history → HasIndex records files index
    → length history ≡ end_of index.entries

-- where a file is to blame they stand for none
abbrev pub BlamedStandForNone : Type 0
BlamedStandForNone = (records : ℕ) (files : Files) (file : FileId) (history : List Push) → IsBlamed records files file → ¬ (StandFor records files history)

-- where they stand for none, it can't be that no file is to blame
abbrev pub OneOrBlamed : Type 0
OneOrBlamed = (records : ℕ) (files : Files) → ((history : List Push) → ¬ (StandFor records files history)) → ¬ ((file : FileId) → ¬ (IsBlamed records files file))

-- and no other file is to blame
abbrev pub OneIsBlamed : Type 0
OneIsBlamed = (records : ℕ) (files : Files) (one other : FileId) → IsBlamed records files one → IsBlamed records files other → one ≡ other

-- an entry of level 0 adds its object's pushes
abbrev pub PushesAreAdded : Type 0
PushesAreAdded =
    (entry : Entry) (pushes : List Push) (old new : List Entry) (history : List Push) → Becomes old entry new → entry.level ≡ 0
    → Turns entry pushes old new history (history ++ pushes)

-- and any other leaves the history, where its object has those pushes of it that the entry names
abbrev pub RunsLeaveTheHistory : Type 0
RunsLeaveTheHistory =
    (entry : Entry) (old new : List Entry) (history : List Push) → AreEntries old → Becomes old entry new → 1 ≤ entry.level
    → Turns entry (take (entry.hi - entry.lo) (drop entry.lo history)) old new history history
