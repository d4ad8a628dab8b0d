-- What a pass has, meeting after meeting.
use Rattle.std.proofs.Common.{◌≡◌, ℕ, zero, suc, List, [], ◌∷◌, Some, sym, subst, arith}
use Rattle.std.specs.Prelude.{slice_get}
use Rattle.std.proofs.lemmas.Option.{none-some, same_Some}
use Rattle.history_pass.specs.declared.view.Mark.{Mark}
use Rattle.history_pass.specs.Marks.{Below}
use Rattle.history_pass.specs.Meetings.{AreMet, MeetingsGrow}
use Rattle.history_pass.proofs.MarkLemmas.{below_self, below_trans}

-- the first is below each
from_first : (first : Mark) (rest : List Mark) (at : ℕ) (new : Mark) → AreMet (first ∷ rest) → slice_get (first ∷ rest) at ≡ Some new → Below first new
from_first first rest zero new met is = subst (λ (m : Mark). Below first m) (same_Some first new is) (below_self first)
from_first first [] (suc at) new met is = absurd (none-some new is)
from_first first (second ∷ rest) (suc at) new met is =
    let meets = met.0.1 in
    below_trans first second new (subst (λ (m : Mark). Below first m) (sym meets.1) meets.0) (from_first second rest at new met.1 is)

pub meetings_grow : MeetingsGrow
meetings_grow [] earlier later old new met order is-old is-new = absurd (none-some old is-old)
meetings_grow (first ∷ rest) zero later old new met order is-old is-new = subst (λ (m : Mark). Below m new) (same_Some first old is-old) (from_first first rest later new met is-new)
meetings_grow (first ∷ rest) (suc earlier) zero old new met order is-old is-new = absurd (omega (arith, order))
meetings_grow (first ∷ []) (suc earlier) (suc later) old new met order is-old is-new = absurd (none-some old is-old)
meetings_grow (first ∷ second ∷ rest) (suc earlier) (suc later) old new met order is-old is-new =
    meetings_grow (second ∷ rest) earlier later old new met.1 (omega (arith, order)) is-old is-new
