-- An entry whose object is among those of a history.
use Rattle.std.specs.Prelude.{List, Contains}
use Rattle.disk_trait.specs.Disk.{Files}
use Rattle.metastore_index.specs.declared.entry.Entry.{Entry}
use Rattle.metastore_index.specs.Entries.{AreEntries}
use Rattle.profile_model.specs.declared.push.Push.{Push}
use Rattle.history_files.specs.History.{AreHeld}

-- one of the entries, whose objects hold the history
pub record IsHeldAt (files : Files) (entries : List Entry) (entry : Entry) (history : List Push) : Type 0 where
  pub divide : AreEntries entries
  pub among : Contains entries entry
  pub held : AreHeld files entries history
