-- What a query finds in a history that is read along a pass.
use Rattle.std.specs.Prelude.{◌≡◌, List, length}
use Rattle.profile_model.specs.declared.part_ask.PartAsk.{PartAsk}
use Rattle.profile_model.specs.declared.profile.Profile.{Profile}
use Rattle.profile_model.specs.declared.push.Push.{Push}
use Rattle.push_history.specs.History.{front_of, rows_of}
use Rattle.shared_store.specs.declared.cursor.Cursor.{Cursor}
use Rattle.store_core.specs.declared.fault.ReadFault.{ReadFault}
use Rattle.store_core.specs.declared.fault.ReadFault.TheVariants as of_part
use Rattle.query_reading.specs.declared.reading.ReadingFault.{ReadingFault}
use Rattle.query_reading.specs.declared.reading.ReadingFault.TheVariants as of_all

-- the cursor is to read the whole of this list
pub record IsFresh (list : List Push) (cursor : Cursor) : Type 0 where
  pub at : cursor.at ≡ 0
  pub until : cursor.until ≡ length list

-- the profiles that an ask finds in all of a list: its tenant's, in its window, in push order
abbrev pub profiles_in : List Push → PartAsk → List Profile
profiles_in list ask = rows_of list ask.tenant (front_of list ask.tenant) ask.from_ms ask.until_ms

-- the fault of a reading for that of one of its parts: which object is damaged isn't told
abbrev pub fault_of : ReadFault → ReadingFault
fault_of of_part.Memory = of_all.Memory
fault_of (of_part.Disk count) = of_all.Disk count
fault_of (of_part.Damaged id) = of_all.Damaged
