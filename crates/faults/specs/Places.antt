-- The numbers of a place, the outermost first.
use Rattle.std.specs.Prelude.{ℕ, List, [], ◌∷◌}
use Rattle.faults.specs.declared.place.Place.{Place}
use Rattle.faults.specs.declared.place.Place.TheVariants.{Whole, At, Pair, Triple}

abbrev pub numbers_of : Place → List ℕ
numbers_of Whole = []
numbers_of (At first) = first ∷ []
numbers_of (Pair first second) = first ∷ second ∷ []
numbers_of (Triple first second third) = first ∷ second ∷ third ∷ []
