-- A text breaks off a form at one place.
use Rattle.std.proofs.Common.{◌≡◌, ℕ, Bool, true, false, List, arith, refl, nat_lt}
use Rattle.std.proofs.lemmas.Bool.Decides.{nat_tests}
use Rattle.profile_model.specs.Breaks.{BreaksAt}

pub breaks_once : (Form : List ℕ → Type 0) (text : List ℕ) (at other : ℕ) → BreaksAt Form text at → BreaksAt Form text other → at ≡ other
breaks_once Form text at other here there = by (nat_lt at other) (nat_lt other at) refl refl
  where
    by : (b c : Bool) → nat_lt at other ≡ b → nat_lt other at ≡ c → at ≡ other
    by true c below is = absurd (here.longest other (grind (arith, nat_tests)) there.within there.begins)
    by false true is below = absurd (there.longest at (grind (arith, nat_tests)) here.within here.begins)
    by false false is also = grind (arith, nat_tests)
