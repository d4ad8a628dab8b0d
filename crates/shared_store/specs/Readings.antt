-- All parts of a query, one after another.
use Rattle.std.specs.Prelude.{◌≡◌, ℕ, List, [], ◌∷◌, length, map}
use Rattle.std.specs.List.{flat_map}
use mathlib.Core.List.{IsPrefix}
use Rattle.profile_model.specs.declared.part_ask.PartAsk.{PartAsk}
use Rattle.profile_model.specs.declared.push.Push.{Push}
use Rattle.push_history.specs.History.{rows_of}
use Rattle.segment_file.specs.Parts.{PartView, part_of}
use Rattle.segment_file.specs.declared.part.Row.{Row}
use Rattle.shared_store.specs.declared.cursor.Cursor.{Cursor}
use Rattle.shared_store.specs.Cursors.{IsBegun, IsNextPart}

-- The parts that a cursor gives on its way from one place to another. Before each its pass may have seen more, and has all of
-- this list.
abbrev pub AreParts : List Push → Cursor → List PartView → Cursor → Type 0
AreParts list old [] new = new ≡ old
AreParts list old (part ∷ parts) new =
    (seen : List Push) × (next : Cursor) × IsPrefix list seen × IsNextPart (Unit {0}) seen old next part × AreParts list next parts new

-- the rows of all of them, in order
abbrev pub rows_in : List PartView → List Row
rows_in parts = flat_map (λ part. part.rows) parts

-- The rows are what the ask finds in the whole list, and their profiles are those of the tenant's pushes up to the cursor's
-- front.
pub record IsWhole (list : List Push) (cursor : Cursor) (rows : List Row) : Type 0 where
  pub found : rows ≡ (part_of 0 list 0 (length list) cursor.ask).rows
  pub profiles : map (λ row. row.profile) rows ≡ rows_of list cursor.ask.tenant cursor.front cursor.ask.from_ms cursor.ask.until_ms

-- the parts of a cursor that has read all are together the whole of the list that it began with
abbrev pub PartsAreWhole : Type 0
PartsAreWhole =
    (list : List Push) (ask : PartAsk) (asked : ℕ) (first last : Cursor) (parts : List PartView)
    → IsBegun (Unit {0}) list ask asked first → AreParts list first parts last → last.at ≡ last.until → IsWhole list first (rows_in parts)
