-- What a reader holds, beside what its link took.
use Rattle.std.specs.Prelude.{◌≡◌, ℕ, ◌↔◌, List, [], ◌++◌, Result, Ok, Err}
use Rattle.link_trait.specs.declared.link.Failed.{Failed}
use Rattle.link_trait.specs.Link.{Told, Took, Stays}

-- the bytes that the link took since then stand behind those that were held
abbrev pub Pulled : List ℕ → List ℕ → Told → Told → Type 0
Pulled old new before now = (piece : List ℕ) × Took piece before now × (new ≡ old ++ piece)

-- a fill takes the bytes that it adds, and none exactly where none is to come
abbrev pub FillStep : Result ℕ Failed → List ℕ → List ℕ → Told → Told → Type 0
FillStep (Ok count) old new before now = Pulled old new before now × ((count ≡ 0) ↔ (before.to_come ≡ []))
FillStep (Err e) old new before now = Stays before now
