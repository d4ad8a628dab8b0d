-- Names and their numbers, while levels are read.
use Rattle.std.specs.Prelude.{◌≡◌, ℕ, ◌++◌, List, [], ◌∷◌, fold, position, nat_eq, if◌then◌else◌}
use Rattle.std.specs.List.{list_any}
use Rattle.std.specs.Map.{lookup}
use Rattle.std.specs.BTreeMap.{is_at}
use Rattle.std.specs.Cmp.Lexicographic.{pointwise}
use Rattle.profile_model.specs.Stacks.{name_cmp}

-- names with one more, unless it's there
abbrev pub with_name : List (List ℕ) → List ℕ → List (List ℕ)
with_name names name = if list_any (pointwise nat_eq name) names then names else names ++ name ∷ []

abbrev pub with_names : List (List ℕ) → List (List ℕ) → List (List ℕ)
with_names names more = fold with_name names more

-- each name has its place as its number
abbrev pub AreNumbered : List (List ℕ) → List (List ℕ × ℕ) → Type 0
AreNumbered names numbers = (name : List ℕ) → lookup (is_at (name_cmp name)) numbers ≡ position (pointwise nat_eq name) names
