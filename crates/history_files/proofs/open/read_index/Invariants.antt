use Rattle.std.proofs.Common.{◌≡◌, ◌^◌, ◌<◌, take}
use Rattle.disk_trait.specs.Disk.{Tells, GoesOn, Looks}
use Rattle.gate_journal.specs.Journal.{IsOpen, list_of}
use Rattle.metastore_index.specs.Entries.{end_of}
use Rattle.history_files.specs.History.{Lists}
use Rattle.history_files.proofs.open.read_index.Given as goal

abbrev pub invariant-loop-i : goal.invariant-loop-i
invariant-loop-i g l =
    let old = g.D.Disk.view l.fn.disk in
    let now = g.D.Disk.view l.disk in
    record {
      goes_on : GoesOn old now;
      faults : now.faults ≡ old.faults;
      looks : Looks old now;
      opened : Tells old → IsOpen now l.journal;
      short : end_of l.index.entries < 2 ^ 63;
      so_far : Tells old → Lists (take l.i (list_of old l.journal)) l.index;
    }
