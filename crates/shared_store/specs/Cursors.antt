-- Reading a history along a pass, part by part.
use Rattle.std.specs.Prelude.{◌≡◌, ℕ, ◌<◌, ◌≤◌, List, length, Option, Some}
use Rattle.profile_model.specs.declared.part_ask.PartAsk.{PartAsk}
use Rattle.profile_model.specs.declared.push.Push.{Push}
use Rattle.push_history.specs.History.{front_of}
use Rattle.segment_file.specs.Parts.{PartView, part_of}
use Rattle.store_core.specs.Store.{FlightView}
use Rattle.shared_store.specs.declared.cursor.Cursor.{Cursor}
use Rattle.shared_store.specs.declared.cursor.FrontAhead.{FrontAhead}

-- What files tell is said where it holds that the disk tells: `tells`.

-- a history that only one connection brings pushes to, and what is in the air behind it
pub record Alone : Type 0 where
  pub history : List Push
  pub flight : Option FlightView

-- this list is the history of which that is said, if it is
abbrev pub IsOwn : Option Alone → List Push → Type 0
IsOwn alone list = (own : Alone) → alone ≡ Some own → list ≡ own.history

-- a cursor that begins at the list's first push and ends behind its last
pub record IsBegun (tells : Type 0) (list : List Push) (ask : PartAsk) (asked : ℕ) (cursor : Cursor) : Type 0 where
  pub at : cursor.at ≡ 0
  pub until : cursor.until ≡ length list
  pub ask_is : cursor.ask ≡ ask
  pub front : tells → cursor.front ≡ front_of list ask.tenant
  pub enough : asked ≤ cursor.front

-- the tenant has fewer pushes than were asked for
pub record IsAhead (tells : Type 0) (list : List Push) (ask : PartAsk) (asked : ℕ) (ahead : FrontAhead) : Type 0 where
  pub asked_is : ahead.asked ≡ asked
  pub front : tells → ahead.front ≡ front_of list ask.tenant
  pub fewer : ahead.front < asked

-- the cursor reads the first pushes of this list
pub record IsOn (list : List Push) (cursor : Cursor) : Type 0 where
  pub at : cursor.at ≤ cursor.until
  pub until : cursor.until ≤ length list

-- it has read all, and stays there
pub record HasEnded (old new : Cursor) : Type 0 where
  pub ended : old.at ≡ old.until
  pub stays : new ≡ old

-- The part is what the ask finds in the list from the cursor's place up to a later one, where the cursor is then.
pub record IsNextPart (tells : Type 0) (list : List Push) (old new : Cursor) (part : PartView) : Type 0 where
  pub from : part.from ≡ old.at
  pub later : old.at < part.until
  pub within : part.until ≤ old.until
  pub moves : new ≡ record old { at = part.until }
  pub rows : tells → part ≡ part_of 0 list old.at part.until old.ask
