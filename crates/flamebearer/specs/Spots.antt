-- What a level shows, by the places of nodes.
use Rattle.std.specs.Prelude.{⊤, ◌≡◌, ℕ, ◌+◌, ◌-◌, ◌^◌, ◌≤◌, ◌<◌, Bool, false, List, [], ◌++◌, length, map, take, get_or, sum_by, codes, Option, Some, None}
use Rattle.std.specs.List.{All, AllByRecursion, flat_map}
use Rattle.flamebearer.specs.Branches.{AreOrdered, stacks_of}
use Rattle.flamebearer.specs.Ends.{AreEnds}
use Rattle.flamebearer.specs.Pictures.{Shown, below, kept_nodes, left_nodes}
use Rattle.flamebearer.specs.Sides.{nodes_with}
use Rattle.flamebearer.specs.declared.branches.Frame.{Frame}
use Rattle.flamebearer.specs.declared.branches.Value.{Value}
use Rattle.flamebearer.specs.declared.levels.Stands.{Stands}
use Rattle.flamebearer.specs.declared.levels.Stands.TheVariants.{Root, At, Others}
use Rattle.flamebearer.specs.declared.levels.Spot.{Spot}

-- the stacks of some frames
pub record AreFramed (stacks : List (List (List ℕ))) : Type 0 where
  pub frames : List Frame
  pub ordered : AreOrdered frames
  pub are : stacks_of frames ≡ stacks

abbrev pub stack_at : List (List (List ℕ)) → Stands → Option (List (List ℕ))
stack_at stacks Root = Some []
stack_at stacks (At place) = Some (get_or stacks place [])
stack_at stacks Others = None

abbrev pub name_at : List (List (List ℕ)) → Stands → List ℕ
name_at stacks Root = codes "total"
name_at stacks (At place) = get_or (get_or stacks place []) (length (get_or stacks place []) - 1) []
name_at stacks Others = codes "other"

abbrev pub shown_at : List (List (List ℕ)) → Spot → Shown
shown_at stacks spot =
    record { name = name_at stacks spot.stands; stack = stack_at stacks spot.stands; own = spot.own; total = spot.total; begin = spot.begin }

-- whether a place has its flag
abbrev pub has_flag : List Bool → ℕ → Bool
has_flag flags at = get_or flags at false

-- the first of the places where what stands below can be, and their end
abbrev pub first_below : List ℕ → Stands → ℕ
first_below ends Root = 0
first_below ends (At place) = place + 1
first_below ends Others = length ends

abbrev pub end_below : List ℕ → Stands → ℕ
end_below ends Root = length ends
end_below ends (At place) = get_or ends place 0
end_below ends Others = length ends

-- the own values of the first so many, together
abbrev pub own_before : List Value → ℕ → ℕ
own_before values count = sum_by (λ value. value.own) (take count values)

-- each total is what the places up to its end have of their own, and ends are nested
pub record AreSpanned (ends : List ℕ) (values : List Value) : Type 0 where
  pub many : length values ≡ length ends
  pub later : (n : ℕ) → n < length ends → n < get_or ends n 0
  pub within : (n : ℕ) → n < length ends → get_or ends n 0 ≤ length ends
  pub nested : (n m : ℕ) → n < length ends → n < m → m < get_or ends n 0 → get_or ends m 0 ≤ get_or ends n 0
  pub spans : (n : ℕ) (d : Value) → n < length ends → (get_or values n d).total + own_before values n ≡ own_before values (get_or ends n 0)
  pub bounded : own_before values (length ends) < 2 ^ 63

-- at least so deep, and within the root's total, with all that stands below
pub record IsSpot (ends : List ℕ) (values : List Value) (depth : ℕ) (spot : Spot) : Type 0 where
  pub deep : depth ≤ first_below ends spot.stands
  pub within : first_below ends spot.stands ≤ length ends
  pub own : spot.own ≤ spot.total
  pub whole : spot.begin + spot.total ≤ own_before values (length ends)
  pub inner : spot.begin + spot.own + own_before values (end_below ends spot.stands) ≤ own_before values (length ends) + own_before values (first_below ends spot.stands)

-- the stacks of some frames, and where what begins with each ends
pub record AreStacks (stacks : List (List (List ℕ))) (ends : List ℕ) : Type 0 where
  pub framed : AreFramed stacks
  pub right : AreEnds 0 (map length stacks) ends

-- what stands below a spot
abbrev pub below_spot : List (List (List ℕ)) → List Value → List Bool → Spot → List Shown
below_spot stacks values kept spot =
    below (kept_nodes (has_flag kept) (nodes_with stacks values)) (left_nodes (has_flag kept) (nodes_with stacks values)) (shown_at stacks spot)

-- what comes to a level for a spot of the level before
pub record IsGrown (ends : List ℕ) (values : List Value) (kept : List Bool) (spot : Spot) (old new : List Spot) : Type 0 where
  pub added : List Spot
  pub items : new ≡ old ++ added
  pub shown : (stacks : List (List (List ℕ))) → AreStacks stacks ends → map (shown_at stacks) added ≡ below_spot stacks values kept spot
  pub spots : AllByRecursion (IsSpot ends values (first_below ends spot.stands + 1)) added

-- the level below a level
pub record IsNext (ends : List ℕ) (values : List Value) (kept : List Bool) (level next : List Spot) : Type 0 where
  pub shown : (stacks : List (List (List ℕ))) → AreStacks stacks ends → map (shown_at stacks) next ≡ flat_map (below_spot stacks values kept) level
  pub spots : (depth : ℕ) → All (IsSpot ends values depth) level → All (IsSpot ends values (depth + 1)) next

-- of so many places
abbrev pub IsPlace : ℕ → Stands → Type 0
IsPlace count Root = ⊤
IsPlace count (At place) = place < count
IsPlace count Others = ⊤

abbrev pub AreWithin : ℕ → List (List Spot) → Type 0
AreWithin count levels = All (All (λ spot. IsPlace count spot.stands)) levels
