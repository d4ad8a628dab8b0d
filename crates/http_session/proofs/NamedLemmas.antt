-- Headers by name, one at a time.
use Rattle.std.proofs.Common.{◌≡◌, ℕ, List, ◌∷◌, false, map}
use Rattle.std.specs.Char.{to_ascii_lowercase}
use Rattle.std.specs.Cmp.Lexicographic.{bytes_decides}
use Rattle.std.proofs.lemmas.Bool.{false_from_ne_true}
use Rattle.http_session.specs.Heads.{is_same_text, all_named}

-- a header of the name gives its value
pub named_here : (name : List ℕ) (header : List ℕ × List ℕ) (headers : List (List ℕ × List ℕ)) →
    map to_ascii_lowercase header.0 ≡ map to_ascii_lowercase name → all_named name (header ∷ headers) ≡ header.1 ∷ all_named name headers
named_here name header headers same = rw ((bytes_decides _ _).1 same)

-- one of another name gives nothing
pub named_later : (name : List ℕ) (header : List ℕ × List ℕ) (headers : List (List ℕ × List ℕ)) →
    (map to_ascii_lowercase header.0 ≡ map to_ascii_lowercase name → ⊥) → all_named name (header ∷ headers) ≡ all_named name headers
named_later name header headers other =
    let test : is_same_text header.0 name ≡ false = false_from_ne_true _ (λ same. other ((bytes_decides _ _).0 same)) in
    rw test
