-- The meetings of a pass.
use Rattle.std.specs.Prelude.{ℕ, ◌≡◌, ◌≤◌, ⊤, List, [], ◌∷◌, Some, slice_get}
use Rattle.history_pass.specs.declared.view.Mark.{Mark}
use Rattle.history_pass.specs.Marks.{Below}

-- what the pass had is below what the spine has, which the pass has from then on
abbrev pub Meets : Mark → Mark → Mark → Type 0
Meets spine had has = Below had spine × (has ≡ spine)

-- what a pass has at first and after each of its meetings, whatever its spine has at each
abbrev pub AreMet : List Mark → Type 0
AreMet [] = ⊤
AreMet (first ∷ []) = ⊤
AreMet (had ∷ has ∷ later) = ((spine : Mark) × Meets spine had has) × AreMet (has ∷ later)

-- what a pass had after a meeting is below what it has after each later one: a prefix, with numbers not above
abbrev pub MeetingsGrow : Type 0
MeetingsGrow =
    (marks : List Mark) (earlier later : ℕ) (old new : Mark) → AreMet marks → earlier ≤ later → slice_get marks earlier ≡ Some old → slice_get marks later ≡ Some new
    → Below old new
