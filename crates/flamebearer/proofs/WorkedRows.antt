-- Rows worked by hand, in frames of one letter: `m 2`, `m;a 3`, `m;b 5` whole, with two nodes kept, and with none; no stacks; three equal values with two nodes kept;
-- and two sides, `m 2`, `m;a 3` left of `m;b 5`, `m 1`.
use Rattle.std.specs.Prelude.{◌≡◌, ℕ, List, [], ◌∷◌, codes, Some, None}
use Rattle.std.proofs.Common.{refl, arith}
use Rattle.profile_model.specs.Sums as sums
use Rattle.flamebearer.specs.Trees.{Node, firsts, node_of, tree_of}
use Rattle.flamebearer.specs.Pictures.{IsFlame, IsPicture, Shown, below, others, root_of, row_of, side_by_side, spans_of}

abbrev m : List ℕ
m = codes "m"

abbrev a : List ℕ
a = codes "a"

abbrev b : List ℕ
b = codes "b"

abbrev c : List ℕ
c = codes "c"

abbrev small : List sums.Sample
small = (m ∷ [], 2) ∷ (m ∷ a ∷ [], 3) ∷ (m ∷ b ∷ [], 5) ∷ []

abbrev nodes : List Node
nodes =
    record { stack = m ∷ []; own = 2; total = 10 }
    ∷ record { stack = m ∷ a ∷ []; own = 3; total = 3 }
    ∷ record { stack = m ∷ b ∷ []; own = 5; total = 5 }
    ∷ []

tree-of-small : tree_of small ≡ nodes
unfolding tree_of node_of firsts
tree-of-small = refl

whole : IsFlame nodes 1024 (record {
  names = codes "total" ∷ m ∷ a ∷ b ∷ [];
  levels = (0 ∷ 10 ∷ 0 ∷ 0 ∷ []) ∷ (0 ∷ 10 ∷ 2 ∷ 1 ∷ []) ∷ (2 ∷ 3 ∷ 3 ∷ 2 ∷ 0 ∷ 5 ∷ 5 ∷ 3 ∷ []) ∷ [];
  max_self = 5;
  ticks = 10;
})
unfolding firsts below others side_by_side spans_of row_of
whole =
    let more : List (List Shown) =
    (record { name = m; stack = Some (m ∷ []); own = 2; total = 10; begin = 0 } ∷ [])
    ∷ (record { name = a; stack = Some (m ∷ a ∷ []); own = 3; total = 3; begin = 2 } ∷ record { name = b; stack = Some (m ∷ b ∷ []); own = 5; total = 5; begin = 5 } ∷ [])
    ∷ [] in
    record {
      picture = record {
        laid = ((root_of nodes ∷ []) ∷ more) ∷ [];
        sided = (record { more = more; first = refl; below = (refl, omega arith, (refl, omega arith, refl)) }, tt);
        names = refl;
        levels = refl;
        greatest = refl;
      };
      ticks = refl;
    }

two-kept : IsFlame nodes 2 (record {
  names = codes "total" ∷ m ∷ b ∷ codes "other" ∷ [];
  levels = (0 ∷ 10 ∷ 0 ∷ 0 ∷ []) ∷ (0 ∷ 10 ∷ 2 ∷ 1 ∷ []) ∷ (2 ∷ 5 ∷ 5 ∷ 2 ∷ 0 ∷ 3 ∷ 3 ∷ 3 ∷ []) ∷ [];
  max_self = 5;
  ticks = 10;
})
unfolding firsts below others side_by_side spans_of row_of
two-kept =
    let more : List (List Shown) =
    (record { name = m; stack = Some (m ∷ []); own = 2; total = 10; begin = 0 } ∷ [])
    ∷ (record { name = b; stack = Some (m ∷ b ∷ []); own = 5; total = 5; begin = 2 } ∷ record { name = codes "other"; stack = None; own = 3; total = 3; begin = 7 } ∷ [])
    ∷ [] in
    record {
      picture = record {
        laid = ((root_of nodes ∷ []) ∷ more) ∷ [];
        sided = (record { more = more; first = refl; below = (refl, omega arith, (refl, omega arith, refl)) }, tt);
        names = refl;
        levels = refl;
        greatest = refl;
      };
      ticks = refl;
    }

none-kept : IsFlame nodes 0 (record {
  names = codes "total" ∷ codes "other" ∷ [];
  levels = (0 ∷ 10 ∷ 0 ∷ 0 ∷ []) ∷ (0 ∷ 10 ∷ 10 ∷ 1 ∷ []) ∷ [];
  max_self = 10;
  ticks = 10;
})
unfolding firsts below others side_by_side spans_of row_of
none-kept =
    let more : List (List Shown) = (record { name = codes "other"; stack = None; own = 10; total = 10; begin = 0 } ∷ []) ∷ [] in
    record {
      picture = record {
        laid = ((root_of nodes ∷ []) ∷ more) ∷ [];
        sided = (record { more = more; first = refl; below = (refl, omega arith, refl) }, tt);
        names = refl;
        levels = refl;
        greatest = refl;
      };
      ticks = refl;
    }

nothing : IsFlame [] 1024 (record { names = codes "total" ∷ []; levels = (0 ∷ 0 ∷ 0 ∷ 0 ∷ []) ∷ []; max_self = 0; ticks = 0 })
unfolding firsts below others side_by_side spans_of row_of
nothing = record {
  picture = record { laid = ((root_of [] ∷ []) ∷ []) ∷ []; sided = (record { more = []; first = refl; below = refl }, tt); names = refl; levels = refl; greatest = refl };
  ticks = refl;
}

abbrev equal : List Node
equal =
    record { stack = a ∷ []; own = 2; total = 2 } ∷ record { stack = b ∷ []; own = 2; total = 2 } ∷ record { stack = c ∷ []; own = 2; total = 2 } ∷ []

earlier-kept : IsFlame equal 2 (record {
  names = codes "total" ∷ a ∷ b ∷ codes "other" ∷ [];
  levels = (0 ∷ 6 ∷ 0 ∷ 0 ∷ []) ∷ (0 ∷ 2 ∷ 2 ∷ 1 ∷ 0 ∷ 2 ∷ 2 ∷ 2 ∷ 0 ∷ 2 ∷ 2 ∷ 3 ∷ []) ∷ [];
  max_self = 2;
  ticks = 6;
})
unfolding firsts below others side_by_side spans_of row_of
earlier-kept =
    let more : List (List Shown) =
    (record { name = a; stack = Some (a ∷ []); own = 2; total = 2; begin = 0 }
    ∷ record { name = b; stack = Some (b ∷ []); own = 2; total = 2; begin = 2 }
    ∷ record { name = codes "other"; stack = None; own = 2; total = 2; begin = 4 }
    ∷ [])
    ∷ [] in
    record {
      picture = record {
        laid = ((root_of equal ∷ []) ∷ more) ∷ [];
        sided = (record { more = more; first = refl; below = (refl, omega arith, refl) }, tt);
        names = refl;
        levels = refl;
        greatest = refl;
      };
      ticks = refl;
    }

abbrev left : List Node
left =
    record { stack = m ∷ []; own = 2; total = 5 }
    ∷ record { stack = m ∷ a ∷ []; own = 3; total = 3 }
    ∷ record { stack = m ∷ b ∷ []; own = 0; total = 0 }
    ∷ []

abbrev right : List Node
right =
    record { stack = m ∷ []; own = 1; total = 6 }
    ∷ record { stack = m ∷ a ∷ []; own = 0; total = 0 }
    ∷ record { stack = m ∷ b ∷ []; own = 5; total = 5 }
    ∷ []

two-sides : IsPicture (left ∷ right ∷ []) 1024 (record {
  names = codes "total" ∷ m ∷ a ∷ b ∷ [];
  levels =
      (0 ∷ 5 ∷ 0 ∷ 0 ∷ 6 ∷ 0 ∷ 0 ∷ [])
      ∷ (0 ∷ 5 ∷ 2 ∷ 0 ∷ 6 ∷ 1 ∷ 1 ∷ [])
      ∷ (2 ∷ 3 ∷ 3 ∷ 1 ∷ 0 ∷ 0 ∷ 2 ∷ 0 ∷ 0 ∷ 0 ∷ 0 ∷ 5 ∷ 5 ∷ 3 ∷ [])
      ∷ [];
  max_self = 5;
})
unfolding firsts below others side_by_side spans_of row_of
two-sides =
    let first : List (List Shown) =
    (record { name = m; stack = Some (m ∷ []); own = 2; total = 5; begin = 0 } ∷ [])
    ∷ (record { name = a; stack = Some (m ∷ a ∷ []); own = 3; total = 3; begin = 2 } ∷ record { name = b; stack = Some (m ∷ b ∷ []); own = 0; total = 0; begin = 5 } ∷ [])
    ∷ [] in
    let second : List (List Shown) =
    (record { name = m; stack = Some (m ∷ []); own = 1; total = 6; begin = 0 } ∷ [])
    ∷ (record { name = a; stack = Some (m ∷ a ∷ []); own = 0; total = 0; begin = 1 } ∷ record { name = b; stack = Some (m ∷ b ∷ []); own = 5; total = 5; begin = 1 } ∷ [])
    ∷ [] in
    record {
      laid = ((root_of left ∷ []) ∷ first) ∷ ((root_of right ∷ []) ∷ second) ∷ [];
      sided = (record { more = first; first = refl; below = (refl, omega arith, (refl, omega arith, refl)) }, (record { more = second; first = refl; below = (refl, omega arith, (refl, omega arith, refl)) }, tt));
      names = refl;
      levels = refl;
      greatest = refl;
    }
