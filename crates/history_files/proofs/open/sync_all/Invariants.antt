use Rattle.std.proofs.Common.{◌≡◌, ◌<◌, ℕ, get_or}
use Rattle.disk_trait.specs.declared.disk.FileId.{FileId}
use Rattle.disk_trait.specs.Disk.{Tells, GoesOn, Leads, Stays, IsDurable}
use Rattle.history_files.proofs.open.sync_all.Given as goal

abbrev pub invariant-loop-name : goal.invariant-loop-name
invariant-loop-name g l =
    let old = g.D.Disk.view l.fn.disk in
    let now = g.D.Disk.view l.disk in
    record {
      goes_on : GoesOn old now;
      faults : now.faults ≡ old.faults;
      leads : Leads Stays old now;
      files : Tells old → now.files ≡ old.files;
      synced : Tells old → (k : ℕ) (file : FileId) → k < l.name-index → get_or l.name-items k file ≡ file → IsDurable file now;
    }
