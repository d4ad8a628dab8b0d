-- Flame graphs, as Pyroscope's single and double formats have them: levels of nodes from the root down, with the numbers of one side
-- or of several, each of which is laid out by itself.
use Rattle.std.specs.Prelude.{◌≡◌, ◌<◌, ◌==◌, ◌&&◌, ◌||◌, ℕ, ◌+◌, ◌-◌, Bool, not, List, [], ◌∷◌, ◌++◌, length, map, take, drop, fold, filter, max, sum_by, get_or, nat_eq, nat_lt, codes, unwrap_or, Option, Some, None, ⊤}
use Rattle.std.specs.List.{flat_map, position, range_with_len}
use Rattle.std.specs.Cmp.Lexicographic.{pointwise}
use Rattle.flamebearer.specs.Trees.{Node, begins_with, firsts}

-- ---- which nodes are kept

-- what the node at a place has on all sides together
abbrev pub weight_at : List (List Node) → ℕ → ℕ
weight_at sides at = sum_by (λ nodes. get_or (map (λ node. node.total) nodes) at 0) sides

-- whether a place comes before another by greater weight, then as the earlier one
abbrev pub comes_before : (ℕ → ℕ) → ℕ → ℕ → Bool
comes_before weight a b = nat_lt (weight b) (weight a) || ((weight a == weight b) && nat_lt a b)

-- of so many places one is kept where fewer than the most come before it
abbrev pub is_kept : (ℕ → ℕ) → ℕ → ℕ → ℕ → Bool
is_kept weight count most at = nat_lt (length (filter (λ other. comes_before weight other at) (range_with_len 0 count))) most

-- the nodes with these places
abbrev pub nodes_at : List Node → List ℕ → List Node
nodes_at nodes places = flat_map (λ at. take 1 (drop at nodes)) places

-- of one side's nodes those that are kept
abbrev pub kept_nodes : (ℕ → Bool) → List Node → List Node
kept_nodes keeps nodes = nodes_at nodes (filter keeps (range_with_len 0 (length nodes)))

abbrev pub left_nodes : (ℕ → Bool) → List Node → List Node
left_nodes keeps nodes = nodes_at nodes (filter (λ at. not (keeps at)) (range_with_len 0 (length nodes)))

-- ---- levels of one side

-- what a level shows at one place; what stands for nodes that aren't kept has no stack
pub record Shown : Type 0 where
  pub name : List ℕ
  pub stack : Option (List (List ℕ))
  pub own : ℕ
  pub total : ℕ
  pub begin : ℕ

-- a node just below the stack
abbrev pub is_child : List (List ℕ) → Node → Bool
is_child stack node = (length node.stack == length stack + 1) && begins_with stack node.stack

-- what the nodes that aren't kept come to, where there are any
unfoldable pub others : List Node → List Shown
others [] = []
others (node ∷ more) =
    let total = sum_by (λ one. one.total) (node ∷ more) in
    record { name = codes "other"; stack = None; own = total; total = total; begin = 0 } ∷ []

abbrev pub shown_of : Node → Shown
shown_of node = record { name = get_or node.stack (length node.stack - 1) []; stack = Some node.stack; own = node.own; total = node.total; begin = 0 }

-- side by side from here on
unfoldable pub side_by_side : ℕ → List Shown → List Shown
side_by_side begin [] = []
side_by_side begin (shown ∷ more) =
    record { name = shown.name; stack = shown.stack; own = shown.own; total = shown.total; begin = begin } ∷ side_by_side (begin + shown.total) more

-- What stands below: the children that are kept, by their names, and then the others, from where its own value ends.
unfoldable pub below : List Node → List Node → Shown → List Shown
below kept left shown = under shown.stack
  where
    under : Option (List (List ℕ)) → List Shown
    under None = []
    under (Some stack) = side_by_side (shown.begin + shown.own) (map shown_of (filter (is_child stack) kept) ++ others (filter (is_child stack) left))

-- each level is what stands below the one before, and below the last there is nothing
abbrev pub AreBelow : (Shown → List Shown) → List Shown → List (List Shown) → Type 0
AreBelow under level [] = flat_map under level ≡ []
AreBelow under level (next ∷ more) = (next ≡ flat_map under level) × (0 < length next) × AreBelow under next more

abbrev pub root_of : List Node → Shown
root_of nodes =
    record { name = codes "total"; stack = Some []; own = 0; total = sum_by (λ node. node.own) nodes; begin = 0 }

-- the levels of one side, the root's first
pub record AreLevels (keeps : ℕ → Bool) (nodes : List Node) (levels : List (List Shown)) : Type 0 where
  pub more : List (List Shown)
  pub first : levels ≡ (root_of nodes ∷ []) ∷ more
  pub below : AreBelow (below (kept_nodes keeps nodes) (left_nodes keeps nodes)) (root_of nodes ∷ []) more

-- each side has its levels
abbrev pub AreLaid : (ℕ → Bool) → List (List Node) → List (List (List Shown)) → Type 0
AreLaid keeps [] [] = ⊤
AreLaid keeps (nodes ∷ sides) (levels ∷ laid) = AreLevels keeps nodes levels × AreLaid keeps sides laid
AreLaid keeps sides laid = ⊥

-- ---- numbers

-- each name once, as the levels show them
abbrev pub names_of : List (List Shown) → List (List ℕ)
names_of levels = firsts (pointwise nat_eq) (flat_map (map (λ shown. shown.name)) levels)

abbrev pub number_of : List (List ℕ) → List ℕ → ℕ
number_of names name = unwrap_or (position (pointwise nat_eq name) names) 0

-- how far each begins from the end of what stands to its left, its total and its own value
unfoldable pub spans_of : ℕ → List Shown → List (List ℕ)
spans_of left [] = []
spans_of left (shown ∷ more) = ((shown.begin - left) ∷ shown.total ∷ shown.own ∷ []) ∷ spans_of (shown.begin + shown.total) more

-- A level, as all sides have it: at each place the numbers of each side, and then that of the name.
unfoldable pub row_of : List (List ℕ) → List (List Shown) → List ℕ
row_of names sides =
    let shown = get_or sides 0 [] in
    flat_map (λ at. flat_map (λ side. get_or (spans_of 0 side) at []) sides ++ number_of names (get_or (map (λ one. one.name) shown) at []) ∷ [])
    (range_with_len 0 (length shown))

-- the level so deep of each side
abbrev pub level_of : List (List (List Shown)) → ℕ → List (List Shown)
level_of laid depth = map (λ levels. get_or levels depth []) laid

pub record PictureView : Type 0 where
  pub names : List (List ℕ)
  pub levels : List (List ℕ)
  pub max_self : ℕ

-- the picture of one side or more, of the same stacks, with at most so many nodes beside the root
pub record IsPicture (sides : List (List Node)) (most : ℕ) (picture : PictureView) : Type 0 where
  pub laid : List (List (List Shown))
  pub sided : AreLaid (is_kept (weight_at sides) (length (get_or sides 0 [])) most) sides laid
  pub names : picture.names ≡ names_of (get_or laid 0 [])
  pub levels : picture.levels ≡ map (λ depth. row_of picture.names (level_of laid depth)) (range_with_len 0 (length (get_or laid 0 [])))
  pub greatest : picture.max_self ≡ fold max 0 (flat_map (λ levels. flat_map (map (λ shown. shown.own)) levels) laid)

-- ---- one side

-- a flame graph: a picture of one side, and the total of its root
pub record FlameView : Type 0 where
  pub names : List (List ℕ)
  pub levels : List (List ℕ)
  pub ticks : ℕ
  pub max_self : ℕ

-- the flame graph of a tree with at most so many nodes beside the root
pub record IsFlame (nodes : List Node) (most : ℕ) (flame : FlameView) : Type 0 where
  pub picture : IsPicture (nodes ∷ []) most (record { names = flame.names; levels = flame.levels; max_self = flame.max_self })
  pub ticks : flame.ticks ≡ sum_by (λ node. node.own) nodes
