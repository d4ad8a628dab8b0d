-- A link as contracts see it, and what each of its calls does to it.
use Rattle.std.specs.Prelude.{◌≡◌, ℕ, ◌+◌, ◌-◌, ◌^◌, ◌<◌, ◌≤◌, ◌↔◌, min, List, [], ◌++◌, take, Option, Some, None, Result, Ok, Err, OnErr, OnOk, Bool}
use Rattle.link_trait.specs.declared.link.Failed.{Failed}

-- what a link tells: the bytes taken and given, the input still to come, and the moment that it always answers
pub record Told : Type 0 where
  pub taken : List ℕ
  pub given : List ℕ
  pub to_come : List ℕ
  pub moment : ℕ

-- A link that tells goes on to tell, and goes by this step. One that doesn't tell stays so.
pub record Goes (step : Told → Told → Type 0) (old new : Option Told) : Type 0 where
  pub told : (before : Told) → old ≡ Some before → (now : Told) × (new ≡ Some now) × step before now
  pub silent : old ≡ None → new ≡ None

-- nothing changes
abbrev pub Stays : Told → Told → Type 0
Stays before now = now ≡ before

-- a piece goes from the front of the input still to come to the end of the bytes taken
pub record Took (piece : List ℕ) (before now : Told) : Type 0 where
  pub taken : now.taken ≡ before.taken ++ piece
  pub to_come : before.to_come ≡ piece ++ now.to_come
  pub given : now.given ≡ before.given
  pub moment : now.moment ≡ before.moment

-- a piece is added to the bytes given
pub record Gave (piece : List ℕ) (before now : Told) : Type 0 where
  pub given : now.given ≡ before.given ++ piece
  pub taken : now.taken ≡ before.taken
  pub to_come : now.to_come ≡ before.to_come
  pub moment : now.moment ≡ before.moment

-- from one state to a later one these bytes went off the front of the input, and those were given; the moment is the same
pub record Passed (took gave : List ℕ) (before now : Told) : Type 0 where
  pub taken : now.taken ≡ before.taken ++ took
  pub to_come : before.to_come ≡ took ++ now.to_come
  pub given : now.given ≡ before.given ++ gave
  pub moment : now.moment ≡ before.moment

-- A read takes the bytes that it puts to the front of the room, and none for a room that isn't empty
-- exactly where none is to come. One that fails changes nothing.
abbrev pub ReadStep : Result ℕ Failed → ℕ → List ℕ → Told → Told → Type 0
ReadStep (Ok count) room into before now =
    Took (take count into) before now × (0 < room → (count ≡ 0) ↔ (before.to_come ≡ []))
ReadStep (Err e) room into before now = Stays before now

-- A write gives the first bytes of its piece. One that fails changes nothing.
abbrev pub WriteStep : Result ℕ Failed → List ℕ → Told → Told → Type 0
WriteStep (Ok count) from before now = Gave (take count from) before now
WriteStep (Err e) from before now = Stays before now

-- a count of faults rose, or stands at its type's end
abbrev pub Rose : ℕ → ℕ → Type 0
Rose before now = min (before + 1) (2 ^ 64 - 1) ≤ now

-- a count doesn't fall, an error comes only where it rose, and a call that succeeds leaves it
pub record HasCause {T E : Type 0} (before now : ℕ) (result : Result T E) : Type 0 where
  pub later : before ≤ now
  pub failed : OnErr result (Rose before now)
  pub quiet : OnOk result (now ≡ before)

-- a link in memory, by what it tells and what it counts
pub record MemoryView : Type 0 where
  pub told : Told
  -- where pieces end
  pub cuts : List ℕ
  -- the numbers of the reads and writes that fail, counted together from 0
  pub failing : List ℕ
  -- how many reads and writes were made, how many of them failed by their number, and how many for want of memory
  pub calls : ℕ
  pub failed : ℕ
  pub refused : ℕ
  -- whether it wasn't closed yet
  pub «open» : Bool

-- how often a call of it has failed
abbrev pub faults_of : MemoryView → ℕ
faults_of link = min (link.failed + link.refused) (2 ^ 64 - 1)
