-- Rows worked by hand, in frames of one letter: `m;a 3`, `m 2` left of `m;b 5`, `m;a 1`, whole and with two nodes kept.
use Rattle.std.specs.Prelude.{◌≡◌, ◌||◌, ℕ, Bool, true, false, List, [], ◌∷◌, codes, Some, None}
use Rattle.std.specs.List.Sorted.{IsStrictlySortedBy}
use Rattle.std.proofs.Common.{refl, arith}
use Rattle.profile_model.specs.StackOrder.{stack_eq}
use Rattle.flamebearer.specs.Trees.{Node, firsts, node_of, tree_of}
use Rattle.flamebearer.specs.Pictures.{Shown, below, others, root_of, row_of, side_by_side, spans_of}
use Rattle.diff_render.specs.Doubles.{AreOfBoth, IsDouble}

abbrev m : List ℕ
m = codes "m"

abbrev a : List ℕ
a = codes "a"

abbrev b : List ℕ
b = codes "b"

abbrev left : List Node
left = record { stack = m ∷ []; own = 2; total = 5 } ∷ record { stack = m ∷ a ∷ []; own = 3; total = 3 } ∷ []

abbrev right : List Node
right =
    record { stack = m ∷ []; own = 0; total = 6 }
    ∷ record { stack = m ∷ a ∷ []; own = 1; total = 1 }
    ∷ record { stack = m ∷ b ∷ []; own = 5; total = 5 }
    ∷ []

tree-of-left : tree_of ((m ∷ [], 2) ∷ (m ∷ a ∷ [], 3) ∷ []) ≡ left
unfolding tree_of node_of firsts
tree-of-left = refl

tree-of-right : tree_of ((m ∷ a ∷ [], 1) ∷ (m ∷ b ∷ [], 5) ∷ []) ≡ right
unfolding tree_of node_of firsts
tree-of-right = refl

abbrev stacks : List (List (List ℕ))
stacks = (m ∷ []) ∷ (m ∷ a ∷ []) ∷ (m ∷ b ∷ []) ∷ []

of-both : AreOfBoth left right stacks
unfolding IsStrictlySortedBy
of-both = record {
  ascending = ((refl, (refl, tt)), ((refl, tt), (tt, tt)));
  exact = λ stack. either (stack_eq stack (m ∷ [])) (stack_eq stack (m ∷ a ∷ [])) (stack_eq stack (m ∷ b ∷ []));
}
  where
    either : (first second third : Bool) → (first || (second || (third || false))) ≡ ((first || (second || false)) || (first || (second || (third || false))))
    either true second third = refl
    either false true third = refl
    either false false true = refl
    either false false false = refl

whole : IsDouble left right 1024 (record {
  names = codes "total" ∷ m ∷ a ∷ b ∷ [];
  levels =
      (0 ∷ 5 ∷ 0 ∷ 0 ∷ 6 ∷ 0 ∷ 0 ∷ [])
      ∷ (0 ∷ 5 ∷ 2 ∷ 0 ∷ 6 ∷ 0 ∷ 1 ∷ [])
      ∷ (2 ∷ 3 ∷ 3 ∷ 0 ∷ 1 ∷ 1 ∷ 2 ∷ 0 ∷ 0 ∷ 0 ∷ 0 ∷ 5 ∷ 5 ∷ 3 ∷ [])
      ∷ [];
  left_ticks = 5;
  right_ticks = 6;
  max_self = 5;
})
unfolding firsts below others side_by_side spans_of row_of
whole =
    let first : List (List Shown) =
    (record { name = m; stack = Some (m ∷ []); own = 2; total = 5; begin = 0 } ∷ [])
    ∷ (record { name = a; stack = Some (m ∷ a ∷ []); own = 3; total = 3; begin = 2 } ∷ record { name = b; stack = Some (m ∷ b ∷ []); own = 0; total = 0; begin = 5 } ∷ [])
    ∷ [] in
    let second : List (List Shown) =
    (record { name = m; stack = Some (m ∷ []); own = 0; total = 6; begin = 0 } ∷ [])
    ∷ (record { name = a; stack = Some (m ∷ a ∷ []); own = 1; total = 1; begin = 0 } ∷ record { name = b; stack = Some (m ∷ b ∷ []); own = 5; total = 5; begin = 1 } ∷ [])
    ∷ [] in
    record {
      stacks = stacks;
      both = of-both;
      picture = record {
        laid = ((root_of left ∷ []) ∷ first) ∷ ((root_of right ∷ []) ∷ second) ∷ [];
        sided = (record { more = first; first = refl; below = (refl, omega arith, (refl, omega arith, refl)) }, (record { more = second; first = refl; below = (refl, omega arith, (refl, omega arith, refl)) }, tt));
        names = refl;
        levels = refl;
        greatest = refl;
      };
      left_ticks = refl;
      right_ticks = refl;
    }

two-kept : IsDouble left right 2 (record {
  names = codes "total" ∷ m ∷ b ∷ codes "other" ∷ [];
  levels =
      (0 ∷ 5 ∷ 0 ∷ 0 ∷ 6 ∷ 0 ∷ 0 ∷ [])
      ∷ (0 ∷ 5 ∷ 2 ∷ 0 ∷ 6 ∷ 0 ∷ 1 ∷ [])
      ∷ (2 ∷ 0 ∷ 0 ∷ 0 ∷ 5 ∷ 5 ∷ 2 ∷ 0 ∷ 3 ∷ 3 ∷ 0 ∷ 1 ∷ 1 ∷ 3 ∷ [])
      ∷ [];
  left_ticks = 5;
  right_ticks = 6;
  max_self = 5;
})
unfolding firsts below others side_by_side spans_of row_of
two-kept =
    let first : List (List Shown) =
    (record { name = m; stack = Some (m ∷ []); own = 2; total = 5; begin = 0 } ∷ [])
    ∷ (record { name = b; stack = Some (m ∷ b ∷ []); own = 0; total = 0; begin = 2 } ∷ record { name = codes "other"; stack = None; own = 3; total = 3; begin = 2 } ∷ [])
    ∷ [] in
    let second : List (List Shown) =
    (record { name = m; stack = Some (m ∷ []); own = 0; total = 6; begin = 0 } ∷ [])
    ∷ (record { name = b; stack = Some (m ∷ b ∷ []); own = 5; total = 5; begin = 0 } ∷ record { name = codes "other"; stack = None; own = 1; total = 1; begin = 5 } ∷ [])
    ∷ [] in
    record {
      stacks = stacks;
      both = of-both;
      picture = record {
        laid = ((root_of left ∷ []) ∷ first) ∷ ((root_of right ∷ []) ∷ second) ∷ [];
        sided = (record { more = first; first = refl; below = (refl, omega arith, (refl, omega arith, refl)) }, (record { more = second; first = refl; below = (refl, omega arith, (refl, omega arith, refl)) }, tt));
        names = refl;
        levels = refl;
        greatest = refl;
      };
      left_ticks = refl;
      right_ticks = refl;
    }
