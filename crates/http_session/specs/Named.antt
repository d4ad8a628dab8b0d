-- The values of a header that should come at most once.
use Rattle.std.specs.Prelude.{◌≡◌, ℕ, List, [], ◌∷◌}
use Rattle.http_session.specs.declared.head.Named.{Named}
use Rattle.http_session.specs.declared.head.Named.TheVariants.{Absent, Once, Repeated}

-- what each answer says of the values
abbrev pub IsNamed : List (List ℕ) → Named → Type 0
IsNamed values Absent = values ≡ []
IsNamed values (Once text) = values ≡ text.now ∷ []
IsNamed values Repeated = (a : List ℕ) × (b : List ℕ) × (more : List (List ℕ)) × (values ≡ a ∷ b ∷ more)
