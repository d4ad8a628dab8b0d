-- What the names that were seen say of the pairs that they are of.
use Rattle.std.specs.Prelude.{◌≡◌, ℕ, List, nat_eq, IsTrue}
use Rattle.std.specs.List.{list_any}
use Rattle.std.specs.Cmp.Lexicographic.{pointwise}
use Rattle.profile_model.specs.LabelSets.{Label, has_label}
use Rattle.profile_model.specs.declared.seen.Seen.{Seen}

-- the names are those of the pairs, as long as they are whole
abbrev pub Knows : Seen → List Label → Type 0
Knows seen pairs =
    IsTrue seen.is_whole → (name : List ℕ) → list_any (λ key. pointwise nat_eq name key.now) seen.names.keys ≡ has_label pairs name
