-- Rows of numbers, of levels by the places of nodes.
use Rattle.std.specs.Prelude.{◌≡◌, Bool, ℕ, zero, suc, ◌+◌, ◌++◌, List, [], ◌∷◌, length, map, get_or, Vec}
use Rattle.std.specs.Global.{Global}
use Rattle.std.specs.List.{All, flat_map, range_with_len}
use Rattle.flamebearer.specs.Pictures.{AreLaid, Shown, spans_of}
use Rattle.flamebearer.specs.Sides.{nodes_with}
use Rattle.flamebearer.specs.Spots.{AreWithin, has_flag, shown_at}
use Rattle.flamebearer.specs.declared.branches.Value.{Value}
use Rattle.flamebearer.specs.declared.levels.Spot.{Spot}
use Rattle.flamebearer.specs.declared.levels.Stands.TheVariants.{Root}

-- the levels of a side, and of each
abbrev pub levels_in : Vec (Vec Spot Global) Global → List (List Spot)
levels_in levels = map (λ level. level.items) levels.items

abbrev pub spots_of : List (Vec (Vec Spot Global) Global) → List (List (List Spot))
spots_of laid = map levels_in laid

abbrev pub all_shown : List (List (List ℕ)) → List (List (List Spot)) → List (List (List Shown))
all_shown stacks laid = map (map (map (shown_at stacks))) laid

-- at each place the numbers of each side, and then that of the name
abbrev pub numbered_row : List (List Shown) → List ℕ → List ℕ
numbered_row sides numbers =
    flat_map (λ at. flat_map (λ side. get_or (spans_of 0 side) at []) sides ++ get_or numbers at 0 ∷ []) (range_with_len 0 (length numbers))

-- where what stands to the left ends
abbrev pub left_of : List Spot → ℕ → ℕ
left_of level zero = 0
left_of level (suc before) = let spot = get_or level before (record { stands = Root; own = 0; total = 0; begin = 0 }) in spot.begin + spot.total

-- each side has its levels, of places that are there
pub record AreLaidBy (stacks : List (List (List ℕ))) (kept : List Bool) (sides : List (List Value)) (laid : List (List (List Spot))) : Type 0 where
  pub shown : AreLaid (has_flag kept) (map (nodes_with stacks) sides) (all_shown stacks laid)
  pub within : All (AreWithin (length stacks)) laid
  pub many : length laid ≡ length sides
