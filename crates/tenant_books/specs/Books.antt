-- What books hold of each tenant, beside a history.
use Rattle.std.specs.Prelude.{◌≡◌, ℕ, List, nat_eq, unwrap_or, IsSome}
use Rattle.std.specs.List.{All}
use Rattle.std.specs.Map.{lookup}
use Rattle.std.specs.Cmp.Lexicographic.{pointwise}
use Rattle.profile_model.specs.declared.push.Push.{Push}
use Rattle.push_history.specs.History.{front_of, tenant_total}
use Rattle.push_history.specs.declared.kept.Standing.{Standing}

-- books, as contracts see them: where each tenant stands that was written down
pub record BooksView : Type 0 where
  pub rows : List (List ℕ × Standing)

-- where a tenant stands that wasn't written down
abbrev pub nowhere : Standing
nowhere = record { front = 0; total = 0 }

-- where a tenant stands
abbrev pub standing_in : BooksView → List ℕ → Standing
standing_in books tenant = unwrap_or (lookup (pointwise nat_eq tenant) books.rows) nowhere

-- books of a history: each tenant stands in them where it stands in the history
pub record AreBooksOf (books : BooksView) (history : List Push) : Type 0 where
  pub front : (tenant : List ℕ) → (standing_in books tenant).front ≡ front_of history tenant
  pub total : (tenant : List ℕ) → (standing_in books tenant).total ≡ tenant_total history tenant

-- a tenant was written down
abbrev pub IsKnown : BooksView → List ℕ → Type 0
IsKnown books tenant = IsSome (lookup (pointwise nat_eq tenant) books.rows)

-- each tenant of these pushes was written down
abbrev pub Knows : BooksView → List Push → Type 0
Knows books pushes = All (λ push. IsKnown books push.tenant) pushes
