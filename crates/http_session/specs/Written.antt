-- What writing all of some bytes does to a link.
use Rattle.std.specs.Prelude.{◌≡◌, ℕ, List, ◌++◌, Result, Ok, Err}
use Rattle.link_trait.specs.Link.{Told, Gave}

-- all of the bytes were given, or after a fault a prefix of them
abbrev pub WriteAll : {T E : Type 0} → Result T E → List ℕ → Told → Told → Type 0
WriteAll (Ok done) bytes before now = Gave bytes before now
WriteAll (Err fault) bytes before now = (piece : List ℕ) × (rest : List ℕ) × (bytes ≡ piece ++ rest) × Gave piece before now
