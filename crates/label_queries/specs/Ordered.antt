-- The members of a list, each once and in order.
use Rattle.std.specs.Prelude.{◌≡◌, List, [], fold}
use Rattle.std.specs.BTreeSet.{insert_key}
use Rattle.std.specs.List.{list_any}
use Rattle.std.specs.List.Sorted.{IsStrictlySortedBy}
use Rattle.std.specs.Ordering.{eq_by_cmp}
use Rattle.std.specs.declared.cmp.Ordering.{Ordering}

-- each put in its place, unless an equal one is there
abbrev pub ascending : {A : Type 0} → (A → A → Ordering) → List A → List A
ascending cmp xs = fold (insert_key cmp) [] xs

-- these ascend, so none comes twice, and they have the same members, by the order
pub record AreMembersOf {A : Type 0} (cmp : A → A → Ordering) (xs members : List A) : Type 0 where
  pub ascending : IsStrictlySortedBy cmp members
  pub same : (x : A) → list_any (eq_by_cmp cmp x) members ≡ list_any (eq_by_cmp cmp x) xs
