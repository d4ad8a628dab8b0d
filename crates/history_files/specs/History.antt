-- The history that files stand for: the pushes of the live objects, one object after another.
use Rattle.std.specs.Prelude.{◌≡◌, ℕ, ◌+◌, ◌-◌, ◌^◌, ◌<◌, ◌≤◌, List, ◌∷◌, ◌++◌, length, map, min, max, Some, Option}
use Rattle.std.specs.List.{All, AllZip, flat_map, fold}
use Rattle.disk_trait.specs.declared.disk.FileId.{FileId}
use Rattle.disk_trait.specs.declared.disk.FileId.TheVariants.{Index, Object}
use Rattle.disk_trait.specs.Disk.{Files, bytes_of}
use Rattle.gate_journal.specs.Slots.{bodies_of}
use Rattle.metastore_index.specs.declared.entry.Entry.{Entry}
use Rattle.metastore_index.specs.Entries.{IndexView}
use Rattle.metastore_index.specs.Taken.{ComesTo, IsBodyOf}
use Rattle.profile_model.specs.declared.push.Push.{Push}
use Rattle.push_history.specs.History.{HasBoundedTotals}
use Rattle.segment_file.specs.Decoded.{Spells}

-- the times of all profiles of some pushes
abbrev pub times_of : List Push → List ℕ
times_of pushes = flat_map (λ push. map (λ profile. profile.time_ms) push.profiles) pushes

-- The least and the greatest of them. Where there are none these are 2^64 - 1 and 0.
pub record HasTimes (entry : Entry) (pushes : List Push) : Type 0 where
  pub least : entry.tmin ≡ fold min (2 ^ 64 - 1) (times_of pushes)
  pub greatest : entry.tmax ≡ fold max 0 (times_of pushes)

-- the file of an entry is the object of just its pushes, with its length and their times
pub record IsObjectOf (entry : Entry) (pushes : List Push) (content : Option (List ℕ)) : Type 0 where
  pub bytes : List ℕ
  pub there : content ≡ Some bytes
  pub long : length bytes ≡ entry.length
  pub spells : Spells bytes (record { lo = entry.lo; pushes = pushes })
  pub until : entry.lo + length pushes ≡ entry.hi
  pub times : HasTimes entry pushes

-- each entry has its object, and these are their pushes, one object after another
pub record AreHeld (files : Files) (entries : List Entry) (pushes : List Push) : Type 0 where
  pub parts : List (List Push)
  pub each : AllZip (λ entry part. IsObjectOf entry part (files (Object entry.id))) entries parts
  pub all : pushes ≡ flat_map (λ part. part) parts

-- what an entry of an index file stays below
pub record IsBounded (entry : Entry) : Type 0 where
  pub until : entry.hi < 2 ^ 63
  pub long : entry.length < 2 ^ 32

-- the bodies of an index file are records that an index takes one after another, and leave this one
pub record Lists (bodies : List (List ℕ)) (index : IndexView) : Type 0 where
  pub taken : List Entry
  pub read : AllZip IsBodyOf bodies taken
  pub bounded : All IsBounded taken
  pub comes : ComesTo taken index

-- the index file has at most so many records, and they leave this index
pub record HasIndex (records : ℕ) (files : Files) (index : IndexView) : Type 0 where
  pub lists : Lists (bodies_of (bytes_of (files (Index 0)))) index
  pub few : length (bodies_of (bytes_of (files (Index 0)))) ≤ records

-- The files stand for this history. Files that aren't there are an index without records, and no history at all.
pub record StandFor (records : ℕ) (files : Files) (history : List Push) : Type 0 where
  pub index : IndexView
  pub has : HasIndex records files index
  pub held : AreHeld files index.entries history
  pub totals : HasBoundedTotals history

-- A file that keeps the files from standing for a history: the index file, where its records leave no index, or the first
-- object, from the oldest pushes on, that isn't its entry's or whose pushes take a tenant's total to its bound.
pub data IsBlamed (records : ℕ) (files : Files) : FileId → Type 0 where
  index : ((index : IndexView) → ¬ (HasIndex records files index)) → IsBlamed records files (Index 0)
  object : (index : IndexView) (before : List Entry) (entry : Entry) (after : List Entry) (earlier : List Push)
      → HasIndex records files index → index.entries ≡ before ++ entry ∷ after → AreHeld files before earlier → HasBoundedTotals earlier
      → ((pushes : List Push) → IsObjectOf entry pushes (files (Object entry.id)) → ¬ (HasBoundedTotals (earlier ++ pushes)))
      → IsBlamed records files (Object entry.id)
