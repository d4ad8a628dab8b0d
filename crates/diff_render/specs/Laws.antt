-- What holds of all flame graphs of two sides.
use Rattle.std.specs.Prelude.{◌≡◌, ℕ, List, [], ◌∷◌, map, sum_by, ⊤}
use Rattle.std.specs.List.{All}
use Rattle.flamebearer.specs.Laws.{AreOfSide}
use Rattle.flamebearer.specs.Pictures.{root_of}
use Rattle.flamebearer.specs.Trees.{Node}
use Rattle.diff_render.specs.Doubles.{AreOfBoth, DoubleView, IsDouble, node_at}

-- at each place of a level the three numbers of the left are those of the right
abbrev pub AreAlike : List ℕ → Type 0
AreAlike [] = ⊤
AreAlike (left_begin ∷ left_total ∷ left_own ∷ right_begin ∷ right_total ∷ right_own ∷ name ∷ more) =
    (left_begin ≡ right_begin) × (left_total ≡ right_total) × (left_own ≡ right_own) × AreAlike more
AreAlike numbers = ⊥

-- of one tree on both sides each level shows the same of both
abbrev pub EqualLevels : Type 0
EqualLevels = (nodes : List Node) (most : ℕ) (flame : DoubleView) → IsDouble nodes nodes most flame → All AreAlike flame.levels

-- and so do the roots
abbrev pub EqualTicks : Type 0
EqualTicks = (nodes : List Node) (most : ℕ) (flame : DoubleView) → IsDouble nodes nodes most flame → flame.left_ticks ≡ flame.right_ticks

-- among the stacks of two sides, the nodes of each are those of one side
abbrev pub SidesOfBoth : Type 0
SidesOfBoth = (left right : List Node) (stacks : List (List (List ℕ))) → AreOfSide left → AreOfSide right → AreOfBoth left right stacks
    → AreOfSide (map (node_at left) stacks) × AreOfSide (map (node_at right) stacks)

-- and each one's root has all that the side has of its own
abbrev pub RootsHaveTicks : Type 0
RootsHaveTicks = (left right : List Node) (stacks : List (List (List ℕ))) → AreOfSide left → AreOfSide right → AreOfBoth left right stacks
    → ((root_of (map (node_at left) stacks)).total ≡ sum_by (λ node. node.own) left) × ((root_of (map (node_at right) stacks)).total ≡ sum_by (λ node. node.own) right)
