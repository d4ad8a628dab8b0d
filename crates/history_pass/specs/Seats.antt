-- Which seats a spine and its passes have.
use Rattle.std.specs.Prelude.{ℕ, ◌≡◌, ◌<◌, ◌^◌, [], length}
use Rattle.atomic_table.specs.Seated.{TableId}
use Rattle.atomic_table.specs.Table.{Me}
use Rattle.history_pass.specs.declared.view.Mark.{Mark}
use Rattle.history_pass.specs.declared.view.View.{View}
use Rattle.history_pass.specs.Views.{spine_at, pass_at}

-- the table of this name, which has three words, and its spine's seat, which has this mark and holds no slot
pub record IsSpine (name table seat : TableId) (me : Me ℕ View) (m : Mark) : Type 0 where
  pub table_is : table ≡ name
  pub words_are : table.words ≡ 3
  pub seat_is : seat ≡ name
  pub me_is : me ≡ (spine_at m, [])

-- the seat of a pass at the table of this name, which has this mark and holds no slot
pub record IsPass (name seat : TableId) (me : Me ℕ View) (m : Mark) : Type 0 where
  pub seat_is : seat ≡ name
  pub me_is : me ≡ (pass_at m, [])

-- this is the length of the mark's list, which is below 2 ^ 63
pub record IsCounted (m : Mark) (count : ℕ) : Type 0 where
  pub count_is : count ≡ length m.list
  pub small : count < 2 ^ 63
