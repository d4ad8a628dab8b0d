-- Marks: a list of pushes, and the two numbers beside it.
use Rattle.std.specs.Prelude.{ℕ, ◌≤◌, List, [], ◌++◌}
use mathlib.Core.List.{IsPrefix}
use Rattle.profile_model.specs.declared.push.Push.{Push}
use Rattle.history_pass.specs.declared.view.Mark.{Mark}

abbrev pub mark : List Push → ℕ → ℕ → Mark
mark list faults full = record { list = list; faults = faults; full = full }

-- no push, and both numbers at 0
abbrev pub nothing : Mark
nothing = mark [] 0 0

-- more pushes at the end of the list
abbrev pub grown : Mark → List Push → Mark
grown m more = mark (m.list ++ more) m.faults m.full

-- the list is a prefix of the other's, and neither number is above the other's
pub record Below (old new : Mark) : Type 0 where
  pub list : IsPrefix old.list new.list
  pub faults : old.faults ≤ new.faults
  pub full : old.full ≤ new.full
