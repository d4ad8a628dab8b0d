-- What holds of all jobs.
use Rattle.std.specs.Prelude.{◌≡◌, ℕ, ◌+◌, ◌-◌, ◌<◌, ◌≤◌, List, length, sum_by}
use Rattle.std.specs.List.{All}
use Rattle.metastore_index.specs.declared.entry.Entry.{Entry}
use Rattle.metastore_index.specs.Entries.{AreEntries, Becomes, HasPlace, HasRun, of_level}
use Rattle.compaction_plan.specs.declared.job.Job.{Job}
use Rattle.compaction_plan.specs.Jobs.{HasJob, IsDue, IsJob, bytes_of, enough_bytes, highest_level, most_entries}

-- a job is due only of a level that has one
abbrev pub DueOnesAreJobs : Type 0
DueOnesAreJobs = (entries : List Entry) (job : Job) → IsDue entries job → HasJob entries job.level

-- and no other is due then
abbrev pub OneJob : Type 0
OneJob = (entries : List Entry) (job other : Job) → IsDue entries job → IsDue entries other → job ≡ other

-- the entries of a job are a run of its level
abbrev pub JobsAreRuns : Type 0
JobsAreRuns = (entries : List Entry) → AreEntries entries → (job : Job) → IsJob entries job → HasRun entries job.level job.lo job.hi

-- so an entry over its pushes that is one level higher may stand in for them
abbrev pub JobsHavePlaces : Type 0
JobsHavePlaces =
    (entries : List Entry) → AreEntries entries → (job : Job) (entry : Entry) → IsJob entries job → entry.lo ≡ job.lo → entry.hi ≡ job.hi
    → entry.level ≡ job.level + 1 → HasPlace entries entry

-- a job has at least one entry, and at most eight
abbrev pub JobsAreSmall : Type 0
JobsAreSmall = (entries : List Entry) (job : Job) (is : IsJob entries job) → (1 ≤ length is.run) × (length is.run ≤ most_entries)

-- Its entries have fewer bytes together than are enough beside those of the largest of them.
abbrev pub JobsAreBounded : Type 0
JobsAreBounded =
    (entries : List Entry) (job : Job) (is : IsJob entries job) (most : ℕ) → All (λ entry. entry.length ≤ most) is.run
    → bytes_of is.run < enough_bytes + most

-- where no level has a job, each below the highest has fewer than eight entries, and not enough bytes
abbrev pub FewStay : Type 0
FewStay =
    (entries : List Entry) → ((level : ℕ) → ¬ (HasJob entries level)) → (level : ℕ) → level < highest_level
    → (length (of_level level entries) < most_entries) × (bytes_of (of_level level entries) < enough_bytes)

-- how often these entries can be merged at most: each takes one of them a level up at least
abbrev pub merges_left : List Entry → ℕ
merges_left entries = sum_by (λ entry. highest_level - entry.level) entries

-- an entry that stands in for others leaves fewer merges, so merging what is due ends
abbrev pub MergingEnds : Type 0
MergingEnds = (entries : List Entry) (entry : Entry) (next : List Entry) → Becomes entries entry next → 1 ≤ entry.level → merges_left next < merges_left entries
