use Rattle.std.proofs.Common.{◌≡◌, ◌<◌, ℕ, get_or, true, None}
use Rattle.disk_trait.specs.declared.disk.FileId.{FileId}
use Rattle.disk_trait.specs.Disk.{Tells, GoesOn, Leads}
use Rattle.history_files.specs.Standing.{Spares, Fewer, KeepsLive, LosesSpares, is_spare_file}
use Rattle.history_files.proofs.spare.remove_spares.Given as goal

abbrev pub invariant-loop-name : goal.invariant-loop-name
invariant-loop-name g l =
    let old = g.D.Disk.view l.fn.disk in
    let now = g.D.Disk.view l.disk in
    record {
      goes_on : GoesOn old now;
      faults : now.faults ≡ old.faults;
      spares : Tells old → Spares l.entries old now;
      others : Leads (KeepsLive l.entries) old now;
      loses : Leads (LosesSpares l.entries) old now;
      others_read : Tells old → KeepsLive l.entries old.files now.files;
      fewer : Tells old → Fewer old.files now.files;
      seen : Tells old → (k : ℕ) (file : FileId) → k < l.name-index → get_or l.name-items k file ≡ file → is_spare_file file l.entries ≡ true → now.files file ≡ None;
    }
