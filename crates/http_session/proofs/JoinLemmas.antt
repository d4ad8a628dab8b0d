-- Pieces put one after another.
use Rattle.std.proofs.Common.{◌≡◌, ℕ, List, ◌++◌, ap, ◌∙◌}

pub put_after : (old new piece front : List ℕ) → old ≡ front → new ≡ old ++ piece → new ≡ front ++ piece
put_after old new piece front is put = put ∙ ap (λ (xs : List ℕ). xs ++ piece) is
