use Rattle.std.proofs.Common.{◌≡◌, ◌^◌, ◌<◌, List, take}
use Rattle.disk_trait.specs.Disk.{GoesOn, Looks, Tells}
use Rattle.metastore_index.specs.Entries.{AreEntries, end_of}
use Rattle.profile_model.specs.declared.push.Push.{Push}
use Rattle.store_core.specs.Opening.{AreCounted}
use Rattle.store_core.proofs.opening.count_objects.Given as goal

abbrev pub invariant-loop-entry : goal.invariant-loop-entry
invariant-loop-entry g l =
    let old = g.D.Disk.view l.fn.disk in
    let now = g.D.Disk.view l.disk in
    record {
      goes_on : GoesOn old now;
      faults : now.faults ≡ old.faults;
      looks : Looks old now;
      so_far : Tells old → AreEntries l.entries → end_of l.entries < 2 ^ 63 → (earlier : List Push) × AreCounted old.files (take l.entry-index l.entries) l.books earlier;
    }
