-- What a seat knows, and the changes that steps make.
use Rattle.std.specs.Prelude.{ℕ, List, true, false}
use Rattle.profile_model.specs.declared.push.Push.{Push}
use Rattle.history_pass.specs.declared.view.Mark.{Mark}
use Rattle.history_pass.specs.declared.view.View.{View}
use Rattle.history_pass.specs.Marks.{mark, nothing, grown}

-- the spine's seat with this mark, and nothing that a join left
abbrev pub spine_at : Mark → View
spine_at m = record { is_spine = true; has = m; older = nothing }

-- the seat of a pass with this mark
abbrev pub pass_at : Mark → View
pass_at m = record { is_spine = false; has = m; older = nothing }

abbrev pub with_mark : View → Mark → View
with_mark v m = record { is_spine = v.is_spine; has = m; older = v.older }

abbrev pub extended : View → List Push → View
extended v more = with_mark v (grown v.has more)

abbrev pub with_faults : View → ℕ → View
with_faults v faults = with_mark v (mark v.has.list faults v.has.full)

abbrev pub with_full : View → ℕ → View
with_full v full = with_mark v (mark v.has.list v.has.faults full)

-- the same seat, where this is what a join left
abbrev pub with_older : View → Mark → View
with_older v m = record { is_spine = v.is_spine; has = v.has; older = m }

abbrev pub without_older : View → View
without_older v = with_older v nothing
