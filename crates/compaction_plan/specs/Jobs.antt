-- Which entries are to be merged.
use Rattle.std.specs.Prelude.{◌≡◌, ◌⊎◌, ℕ, ◌<◌, ◌≤◌, List, [], ◌∷◌, ◌++◌, length, sum_by, take}
use Rattle.metastore_index.specs.declared.entry.Entry.{Entry}
use Rattle.metastore_index.specs.Entries.{end_of, of_level}
use Rattle.compaction_plan.specs.declared.job.Job.{Job}

-- a job has at most so many entries
abbrev pub most_entries : ℕ
most_entries = 8

-- and fewer where they have so many bytes together
abbrev pub enough_bytes : ℕ
enough_bytes = 33554432

-- only levels below this one have jobs
abbrev pub highest_level : ℕ
highest_level = 3

-- the bytes of their objects' files
abbrev pub bytes_of : List Entry → ℕ
bytes_of entries = sum_by (λ entry. entry.length) entries

-- so many entries, or so many bytes, that they are worth a merge
abbrev pub AreEnough : List Entry → Type 0
AreEnough entries = (most_entries ≤ length entries) ⊎ (enough_bytes ≤ bytes_of entries)

-- the level has enough entries
abbrev pub HasJob : List Entry → ℕ → Type 0
HasJob entries level = (level < highest_level) × AreEnough (of_level level entries)

-- enough entries, and fewer of them from the first on wouldn't be
pub record AreFewest (run : List Entry) : Type 0 where
  pub enough : AreEnough run
  pub fewest : (count : ℕ) → count < length run → ¬ (AreEnough (take count run))

-- the first push of these entries
abbrev pub begin_of : List Entry → ℕ
begin_of [] = 0
begin_of (entry ∷ more) = entry.lo

-- the job's pushes are those of the oldest entries of its level, the fewest that are enough
pub record IsJob (entries : List Entry) (job : Job) : Type 0 where
  pub run : List Entry
  pub newer : List Entry
  pub below : job.level < highest_level
  pub oldest : of_level job.level entries ≡ run ++ newer
  pub fewest : AreFewest run
  pub from : job.lo ≡ begin_of run
  pub until : job.hi ≡ end_of run

-- the job of the lowest level that has one
pub record IsDue (entries : List Entry) (job : Job) : Type 0 where
  pub is : IsJob entries job
  pub lowest : (level : ℕ) → level < job.level → ¬ (HasJob entries level)
