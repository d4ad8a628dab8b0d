-- The entries of a table, with the bytes of their keys.
use Rattle.std.specs.Prelude.{ℕ, List, map}
use Rattle.std.specs.Global.{Vec}

abbrev pub rows_of : {X : Type 0} → List (Vec ℕ × X) → List (List ℕ × X)
rows_of {X} entries = map {B = List ℕ × X} (λ (entry : Vec ℕ × X). (entry.0.items, entry.1)) entries
