-- Where tenants stand in books that change.
use Rattle.std.proofs.Common.{◌≡◌, ◌+◌, ◌-◌, ◌^◌, ◌≤◌, ◌<◌, ◌∙◌, ℕ, List, [], ◌∷◌, ◌++◌, length, refl, sym, ap, subst, arith, Bool, true, false, cond, Option, Some, None, ⊎_elim, slice_index_or}
use Rattle.std.proofs.lemmas.Bool.{cases_lt, true≢false}
use Rattle.std.proofs.lemmas.List.{get_or_default, length_push}
use Rattle.std.specs.Prelude.{nat_eq, if◌then◌else◌, unwrap_or, is_some, IsSome, min}
use Rattle.std.specs.Global.{Vec}
use Rattle.std.specs.Map.{lookup, set_value}
use Rattle.std.specs.BTreeMap.{is_at, insert_entry}
use Rattle.std.specs.Cmp.Lexicographic.{bytes_decides, pointwise, slice_cmp}
use Rattle.std.specs.Ordering.{nat_cmp}
use Rattle.profile_model.specs.Pushes.{profiles_total}
use Rattle.profile_model.specs.declared.push.Push.{Push}
use Rattle.push_history.specs.History.{HasBoundedTotals, front_of, tenant_total}
use Rattle.push_history.specs.declared.kept.Standing.{Standing}
use Rattle.push_history.proofs.HistoryLemmas.{tenant_total-push}
use Rattle.tenant_books.specs.Books.{AreBooksOf, BooksView, IsKnown, nowhere, standing_in}
use Rattle.tenant_books.specs.Rows.{rows_of}
use Rattle.tenant_books.proofs.HistoryLemmas.{front-append, front-of-push, front-within}
use Rattle.tenant_books.proofs.RowLemmas.{found-inserted, found-row, found-written, key_cmp, value-inserted}

-- ---- a tenant that wasn't there is written down

module _ (entries grown : List (Vec ℕ × Standing)) (key : Vec ℕ) (tenant : List ℕ) (written : grown ≡ insert_entry key_cmp entries key nowhere) (same : key.items ≡ tenant) where
  pub stands-still : is_some (lookup (pointwise nat_eq tenant) (rows_of entries)) ≡ false → (other : List ℕ)
      → unwrap_or (lookup (pointwise nat_eq other) (rows_of grown)) nowhere ≡ unwrap_or (lookup (pointwise nat_eq other) (rows_of entries)) nowhere
  stands-still absent other =
      ap (λ es. unwrap_or (lookup (pointwise nat_eq other) (rows_of es)) nowhere) written
      ∙ value-inserted entries key nowhere tenant other nowhere same ∙ by (pointwise nat_eq tenant other) refl
    where
      none : (found : Option Standing) → is_some found ≡ false → nowhere ≡ unwrap_or found nowhere
      none None is = refl
      none (Some standing) is = absurd (true≢false is)

      by : (own : Bool) → pointwise nat_eq tenant other ≡ own
          → cond own nowhere (unwrap_or (lookup (pointwise nat_eq other) (rows_of entries)) nowhere) ≡ unwrap_or (lookup (pointwise nat_eq other) (rows_of entries)) nowhere
      by true is =
          none (lookup (pointwise nat_eq other) (rows_of entries))
          (ap (λ one. is_some (lookup (pointwise nat_eq one) (rows_of entries))) (sym ((bytes_decides tenant other).0 is)) ∙ absent)
      by false is = refl

  found : (other : List ℕ) → lookup (pointwise nat_eq other) (rows_of grown) ≡ cond (pointwise nat_eq tenant other) (Some nowhere) (lookup (pointwise nat_eq other) (rows_of entries))
  found other =
      ap (λ es. lookup (pointwise nat_eq other) (rows_of es)) written ∙ found-inserted entries key nowhere other
      ∙ ap (λ one. cond (pointwise nat_eq one other) (Some nowhere) (lookup (pointwise nat_eq other) (rows_of entries))) same

  pub known-then : IsSome (lookup (pointwise nat_eq tenant) (rows_of grown))
  known-then =
      ap is_some (found tenant)
      ∙ ap (λ own. is_some (cond own (Some nowhere) (lookup (pointwise nat_eq tenant) (rows_of entries)))) ((bytes_decides tenant tenant).1 refl)

  pub known-still : (other : List ℕ) → IsSome (lookup (pointwise nat_eq other) (rows_of entries)) → IsSome (lookup (pointwise nat_eq other) (rows_of grown))
  known-still other is = ap is_some (found other) ∙ by (pointwise nat_eq tenant other)
    where
      by : (own : Bool) → is_some (cond own (Some nowhere) (lookup (pointwise nat_eq other) (rows_of entries))) ≡ true
      by true = refl
      by false = is

-- books where each tenant stands as in others are books of the same histories
pub books-alike : (books others : BooksView) (history : List Push) → ((tenant : List ℕ) → standing_in books tenant ≡ standing_in others tenant) → AreBooksOf others history → AreBooksOf books history
books-alike books others history alike are = record {
  front = λ tenant. ap (λ (standing : Standing). standing.front) (alike tenant) ∙ are.front tenant;
  total = λ tenant. ap (λ (standing : Standing). standing.total) (alike tenant) ∙ are.total tenant;
}

-- ---- a push is counted

module _ (bytes : List ℕ) (entries grown : List (Vec ℕ × Standing)) (held counted : Standing)
    (written : grown ≡ set_value (is_at (λ (key : Vec ℕ). slice_cmp nat_cmp bytes key.items)) entries counted)
    (is : Some held ≡ lookup (is_at (λ (key : Vec ℕ). slice_cmp nat_cmp bytes key.items)) entries) where
  there : Some held ≡ lookup (pointwise nat_eq bytes) (rows_of entries)
  there = is ∙ found-row bytes entries

  after : (tenant : List ℕ) → lookup (pointwise nat_eq tenant) (rows_of grown) ≡ cond (pointwise nat_eq bytes tenant) (Some counted) (lookup (pointwise nat_eq tenant) (rows_of entries))
  after tenant =
      ap (λ es. lookup (pointwise nat_eq tenant) (rows_of es)) written
      ∙ found-written bytes entries counted tenant (ap is_some (sym there))

  pub counted-still : (tenant : List ℕ) → IsSome (lookup (pointwise nat_eq tenant) (rows_of entries)) → IsSome (lookup (pointwise nat_eq tenant) (rows_of grown))
  counted-still tenant known = ap is_some (after tenant) ∙ by (pointwise nat_eq bytes tenant)
    where
      by : (own : Bool) → is_some (cond own (Some counted) (lookup (pointwise nat_eq tenant) (rows_of entries))) ≡ true
      by true = refl
      by false = known

  stood : (tenant : List ℕ) (own : Bool) → pointwise nat_eq bytes tenant ≡ own
      → unwrap_or (lookup (pointwise nat_eq tenant) (rows_of grown)) nowhere ≡ cond own counted (unwrap_or (lookup (pointwise nat_eq tenant) (rows_of entries)) nowhere)
  stood tenant true own = ap (λ found. unwrap_or found nowhere) (after tenant ∙ ap (λ b. cond b (Some counted) (lookup (pointwise nat_eq tenant) (rows_of entries))) own)
  stood tenant false own = ap (λ found. unwrap_or found nowhere) (after tenant ∙ ap (λ b. cond b (Some counted) (lookup (pointwise nat_eq tenant) (rows_of entries))) own)

  stands : unwrap_or (lookup (pointwise nat_eq bytes) (rows_of entries)) nowhere ≡ held
  stands = ap (λ found. unwrap_or found nowhere) (sym there)

  pub books-counted : (push : Push) → bytes ≡ push.tenant → counted.front ≡ min (held.front + 1) (2 ^ 64 - 1)
      → counted.total ≡ min (held.total + profiles_total push.profiles) (2 ^ 128 - 1)
      → (history : List Push) → AreBooksOf (record { rows = rows_of entries }) history → HasBoundedTotals (history ++ push ∷ []) → length (history ++ push ∷ []) < 2 ^ 63
      → AreBooksOf (record { rows = rows_of grown }) (history ++ push ∷ [])
  books-counted push same front total history are bounded short = record {
    front = λ tenant. fronts tenant (pointwise nat_eq bytes tenant) refl;
    total = λ tenant. totals tenant (pointwise nat_eq bytes tenant) refl;
  }
    where
      fronts : (tenant : List ℕ) (own : Bool) → pointwise nat_eq bytes tenant ≡ own
          → (unwrap_or (lookup (pointwise nat_eq tenant) (rows_of grown)) nowhere).front ≡ front_of (history ++ push ∷ []) tenant
      fronts tenant true own =
          let here : bytes ≡ tenant = (bytes_decides bytes tenant).0 own in
          let one : front_of (push ∷ []) tenant ≡ 1 = front-of-push push tenant ∙ ap (λ (b : Bool). if b then 1 else 0) (ap (λ t. pointwise nat_eq t tenant) (sym same) ∙ own) in
          let before : held.front ≡ front_of history tenant = ap (λ (standing : Standing). standing.front) (sym stands) ∙ are.front bytes ∙ ap (front_of history) here in
          let few = front-within history tenant in
          let long = length_push history push in
          let both = front-append history (push ∷ []) tenant in
          let sum : counted.front ≡ front_of (history ++ push ∷ []) tenant = omega arith in
          ap (λ (standing : Standing). standing.front) (stood tenant true own) ∙ sum
      fronts tenant false own =
          let none : front_of (push ∷ []) tenant ≡ 0 = front-of-push push tenant ∙ ap (λ (b : Bool). if b then 1 else 0) (ap (λ t. pointwise nat_eq t tenant) (sym same) ∙ own) in
          let both = front-append history (push ∷ []) tenant in
          let sum : front_of history tenant ≡ front_of (history ++ push ∷ []) tenant = omega arith in
          ap (λ (standing : Standing). standing.front) (stood tenant false own) ∙ are.front tenant ∙ sum

      totals : (tenant : List ℕ) (own : Bool) → pointwise nat_eq bytes tenant ≡ own
          → (unwrap_or (lookup (pointwise nat_eq tenant) (rows_of grown)) nowhere).total ≡ tenant_total (history ++ push ∷ []) tenant
      totals tenant true own =
          let here : bytes ≡ tenant = (bytes_decides bytes tenant).0 own in
          let grows : tenant_total (history ++ push ∷ []) tenant ≡ tenant_total history tenant + profiles_total push.profiles =
          tenant_total-push history push tenant ∙ ap (λ (b : Bool). tenant_total history tenant + (if b then profiles_total push.profiles else 0)) (ap (λ t. pointwise nat_eq t tenant) (sym same) ∙ own) in
          let before : held.total ≡ tenant_total history tenant = ap (λ (standing : Standing). standing.total) (sym stands) ∙ are.total bytes ∙ ap (tenant_total history) here in
          let below = bounded tenant in
          let sum : counted.total ≡ tenant_total (history ++ push ∷ []) tenant = omega arith in
          ap (λ (standing : Standing). standing.total) (stood tenant true own) ∙ sum
      totals tenant false own =
          let stays : tenant_total (history ++ push ∷ []) tenant ≡ tenant_total history tenant + 0 =
          tenant_total-push history push tenant ∙ ap (λ (b : Bool). tenant_total history tenant + (if b then profiles_total push.profiles else 0)) (ap (λ t. pointwise nat_eq t tenant) (sym same) ∙ own) in
          let sum : tenant_total history tenant ≡ tenant_total (history ++ push ∷ []) tenant = omega arith in
          ap (λ (standing : Standing). standing.total) (stood tenant false own) ∙ are.total tenant ∙ sum

-- ---- tenants of the first pushes

pub known-next : (books : BooksView) (pushes : List Push) (i : ℕ) (push : Push) → i < length pushes → push ≡ slice_index_or pushes i push → IsKnown books push.tenant
    → ((k : ℕ) → (d : Push) → k < i → IsKnown books (slice_index_or pushes k d).tenant)
    → (k : ℕ) → (d : Push) → k < i + 1 → IsKnown books (slice_index_or pushes k d).tenant
known-next books pushes i push within is known before k d short = ⊎_elim (before k d) here (cases_lt k i)
  where
    here : i ≤ k → IsKnown books (slice_index_or pushes k d).tenant
    here most =
        let same : i ≡ k = omega arith in
        subst (λ (one : Push). IsKnown books one.tenant)
        (is ∙ get_or_default pushes i push d within ∙ ap (λ at. slice_index_or pushes at d) same) known
