-- What every moment since a start has kept.
use Rattle.std.specs.Prelude.{◌≡◌, ◌⊎◌, ℕ, ◌≤◌, List, [], ◌++◌}
use Rattle.disk_trait.specs.Disk.{DiskView, Files, Rose}
use Rattle.profile_model.specs.declared.push.Push.{Push}
use Rattle.history_files.specs.History.{StandFor}

-- the files stand for one history or the other
abbrev pub StandForEither : ℕ → List Push → List Push → Files → Type 0
StandForEither records one other files = StandFor records files one ⊎ StandFor records files other

-- how many pushes are settled together at most
abbrev pub most_pushes : ℕ
most_pushes = 64

-- a moment, and what there was then: the count of faults, and the history
pub record Start : Type 0 where
  pub moment : ℕ
  pub faults : ℕ
  pub history : List Push

-- the start of a run that begins with this disk
abbrev pub start_at : DiskView → List Push → Start
start_at disk history = record { moment = disk.moment; faults = disk.faults; history = history }

-- The files stand for the start's history and a front of what came to it since. Where a fault was counted, the whole of one
-- flight may stand behind that: the pushes that a settling was to keep, behind the history of then, when the disk failed. The
-- caller says by IsFlight which pushes those are: first the history that a flight would stand behind, then its pushes.
pub record IsFront (records : ℕ) (start : Start) (IsFlight : List Push → List Push → Type 0) (faults : ℕ) (since : List Push) (image : Files) : Type 0 where
  pub front : List Push
  pub back : List Push
  pub flight : List Push
  pub is : since ≡ front ++ back
  pub risen : (flight ≡ []) ⊎ (IsFlight (start.history ++ front) flight × Rose start.faults faults)
  pub stands : StandFor records image (start.history ++ (front ++ flight))

-- each image of each moment since the start stands for such a front of the whole history
pub record Keeps (records : ℕ) (start : Start) (IsFlight : List Push → List Push → Type 0) (disk : DiskView) (whole : List Push) : Type 0 where
  pub since : start.moment ≤ disk.moment
  pub counts : start.faults ≤ disk.faults
  pub rest : List Push
  pub begins : whole ≡ start.history ++ rest
  pub each : (image : Files) → disk.images_since start.moment image → IsFront records start IsFlight disk.faults rest image

-- The history was kept since the start. What may come to it by an append that failed is a whole flight behind it, and nothing
-- where no fault was counted.
pub record Keeping (records : ℕ) (start : Start) (IsFlight : List Push → List Push → Type 0) (disk : DiskView) (history added : List Push) : Type 0 where
  pub keeps : Keeps records start IsFlight disk history
  pub risen : (added ≡ []) ⊎ (IsFlight history added × Rose start.faults disk.faults)
