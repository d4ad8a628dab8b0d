-- A spine and its passes, call after call.
use Rattle.std.specs.Prelude.{ℕ, ◌≡◌, ◌≤◌, List, [], ◌∷◌, ◌++◌, set, Some, slice_get}
use Rattle.profile_model.specs.declared.push.Push.{Push}
use Rattle.history_pass.specs.declared.view.Mark.{Mark}
use Rattle.history_pass.specs.Marks.{mark, grown, Below}
use Rattle.history_pass.specs.Meetings.{Meets}

-- what the spine has, and what each of its passes has, in the order in which they were made
pub record World : Type 0 where
  pub spine : Mark
  pub passes : List Mark

abbrev pub world : Mark → List Mark → World
world spine passes = record { spine = spine; passes = passes }

-- a call of the spine
pub data Call : Type 0 where
  -- with the pushes that come
  extend : List Push → Call
  -- with the numbers from then on
  tell : ℕ → ℕ → Call
  new_pass : Call
  -- with the pass at this place
  meet : ℕ → Call

-- what a call makes of a world, as its clauses say
abbrev pub IsStep : Call → World → World → Type 0
IsStep (extend more) old new = new ≡ world (grown old.spine more) old.passes
IsStep (tell faults full) old new = (old.spine.faults ≤ faults) × (old.spine.full ≤ full) × (new ≡ world (mark old.spine.list faults full) old.passes)
IsStep new_pass old new = new ≡ world old.spine (old.passes ++ old.spine ∷ [])
IsStep (meet place) old new =
    (had : Mark) × (has : Mark) × (slice_get old.passes place ≡ Some had) × Meets old.spine had has × (new ≡ world old.spine (set old.passes place has))

-- these calls, one after another, make the one world of the other
abbrev pub IsRun : List Call → World → World → Type 0
IsRun [] old new = new ≡ old
IsRun (call ∷ later) old new = (next : World) × IsStep call old next × IsRun later next new

-- no pass is above the spine
abbrev pub AreBehind : World → Type 0
AreBehind w = (place : ℕ) (has : Mark) → slice_get w.passes place ≡ Some has → Below has w.spine

-- the spine, and the pass at each place, has at least what it had
pub record Grows (old new : World) : Type 0 where
  pub spine : Below old.spine new.spine
  pub passes : (place : ℕ) (had : Mark) → slice_get old.passes place ≡ Some had → (has : Mark) × (slice_get new.passes place ≡ Some has) × Below had has

-- where no pass is above the spine, as where there is no pass yet, none is after any run; and a run takes from none
abbrev pub RunsGrow : Type 0
RunsGrow = (calls : List Call) (old new : World) → AreBehind old → IsRun calls old new → AreBehind new × Grows old new
