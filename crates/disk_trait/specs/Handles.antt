-- Which files of a folder are kept open, and whether the folder waits for a sync.
use Rattle.std.specs.Prelude.{Bool, Option, Some, None, if◌then◌else◌}
use Rattle.std.specs.declared.fs.File.{File}
use Rattle.disk_trait.specs.declared.disk.FileId.{FileId}
use Rattle.disk_trait.specs.declared.disk.FileId.TheVariants.{Index, Object, Root, LimitsFile}
use Rattle.disk_trait.specs.declared.handles.Handle.{Handle}
use Rattle.disk_trait.specs.declared.handles.Handles.{Handles}
use Rattle.disk_trait.specs.declared.open_folder.OpenFolder.{OpenFolder}
use Rattle.disk_trait.specs.Log.{same_file}

-- the file's handle, if it is the one in this place
abbrev pub kept_in : Option Handle → FileId → Option File
kept_in None file = None
kept_in (Some handle) file = if same_file handle.file file then Some handle.opened else None

-- the file's handle, if it is kept
abbrev pub kept_of : Handles → FileId → Option File
kept_of handles (Index n) = kept_in handles.index (Index n)
kept_of handles (Object n) = kept_in handles.object (Object n)
kept_of handles Root = None
kept_of handles LimitsFile = None

abbrev pub handle_of : OpenFolder → FileId → Option File
handle_of folder file = kept_of folder.handles file

abbrev pub waits : OpenFolder → Bool
waits folder = folder.waits_for_sync
