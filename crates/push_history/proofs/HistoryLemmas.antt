-- What one push more does to a tenant's pushes and their total.
use Rattle.std.proofs.Common.{◌≡◌, ◌+◌, ◌≤◌, ◌<◌, ℕ, zero, suc, List, [], ◌∷◌, ◌++◌, take, length, get_or, refl, arith, sym, Bool, true, false, cond, ap, ◌∙◌, add-one}
use Rattle.std.proofs.Math.Seq.{take-suc}
use Rattle.std.proofs.lemmas.Bool.{true≢false}
use Rattle.std.proofs.lemmas.List.Sums.{sum_by-cons}
use Rattle.std.specs.Prelude.{filter, sum_by, nat_eq, if◌then◌else◌}
use Rattle.std.specs.Cmp.Lexicographic.{pointwise, bytes_decides}
use Rattle.profile_model.specs.Limits.{total_bound}
use Rattle.profile_model.specs.Pushes.{profiles_total}
use Rattle.push_history.specs.History.{HasBoundedTotals, pushes_of, pushes_total, tenant_total}
use Rattle.profile_model.specs.declared.push.Push.{Push}

-- the sum over those that pass among the first i, and the next that passes, are within the sum over all that pass
pub sum_by-filter-more : {X : Type 0} (f : X → ℕ) (p : X → Bool) (xs : List X) (i : ℕ) (d : X) → i < length xs → p (get_or xs i d) ≡ true
    → sum_by f (filter p (take i xs)) + f (get_or xs i d) ≤ sum_by f (filter p xs)
sum_by-filter-more f p [] i d short passes = absurd (omega arith)
sum_by-filter-more {X} f p (x ∷ xs) zero d short passes = first (p x) passes
  where
    first : (kept : Bool) → kept ≡ true → 0 + f x ≤ sum_by f (cond kept (x ∷ filter p xs) (filter p xs))
    first true is = omega (arith, sum_by-cons f x (filter p xs))
    first false is = absurd (true≢false (sym is))
sum_by-filter-more {X} f p (x ∷ xs) (suc i) d short passes = by (p x) (sum_by-filter-more f p xs i d (omega arith) passes)
  where
    by : (kept : Bool) → sum_by f (filter p (take i xs)) + f (get_or xs i d) ≤ sum_by f (filter p xs)
        → sum_by f (cond kept (x ∷ filter p (take i xs)) (filter p (take i xs))) + f (get_or xs i d) ≤ sum_by f (cond kept (x ∷ filter p xs) (filter p xs))
    by true later = omega (arith, sum_by-cons f x (filter p xs), sum_by-cons f x (filter p (take i xs)))
    by false later = later

-- a push counts for its own tenant, and for no other
pub tenant_total-push : (history : List Push) (push : Push) (tenant : List ℕ)
    → tenant_total (history ++ push ∷ []) tenant ≡ tenant_total history tenant + (if pointwise nat_eq push.tenant tenant then profiles_total push.profiles else 0)
tenant_total-push [] push tenant = by (pointwise nat_eq push.tenant tenant)
  where
    by : (own : Bool) → pushes_total (cond own (push ∷ []) []) ≡ 0 + cond own (profiles_total push.profiles) 0
    by true = omega (arith, sum_by-cons (λ (one : Push). profiles_total one.profiles) push [])
    by false = refl
tenant_total-push (first ∷ history) push tenant = by (pointwise nat_eq first.tenant tenant) (tenant_total-push history push tenant)
  where
    by : (kept : Bool) → tenant_total (history ++ push ∷ []) tenant ≡ tenant_total history tenant + cond (pointwise nat_eq push.tenant tenant) (profiles_total push.profiles) 0
        → pushes_total (cond kept (first ∷ pushes_of (history ++ push ∷ []) tenant) (pushes_of (history ++ push ∷ []) tenant))
        ≡ pushes_total (cond kept (first ∷ pushes_of history tenant) (pushes_of history tenant)) + cond (pointwise nat_eq push.tenant tenant) (profiles_total push.profiles) 0
    by true later = omega (arith, sum_by-cons (λ (one : Push). profiles_total one.profiles) first (pushes_of (history ++ push ∷ []) tenant), sum_by-cons (λ (one : Push). profiles_total one.profiles) first (pushes_of history tenant))
    by false later = later

-- a push that its tenant's total has room for keeps all totals bounded
pub bounded-push : (history : List Push) (push : Push) → HasBoundedTotals history → tenant_total history push.tenant + profiles_total push.profiles < total_bound
    → HasBoundedTotals (history ++ push ∷ [])
bounded-push history push bounded room tenant = by (pointwise nat_eq push.tenant tenant) refl
  where
    same : pointwise nat_eq push.tenant tenant ≡ true → push.tenant ≡ tenant
    same is = (bytes_decides push.tenant tenant).0 is

    by : (own : Bool) → pointwise nat_eq push.tenant tenant ≡ own → tenant_total (history ++ push ∷ []) tenant < total_bound
    by true is = rw (tenant_total-push history push tenant, is, ← same is) room
    by false is = let below = bounded tenant in rw (tenant_total-push history push tenant, is) (omega arith)

-- the total of a tenant over one push more of a history
pub tenant_total-next : (history : List Push) (tenant : List ℕ) (i : ℕ) (push : Push) → i < length history → push ≡ get_or history i push
    → tenant_total (take (i + 1) history) tenant ≡ tenant_total (take i history) tenant + (if pointwise nat_eq push.tenant tenant then profiles_total push.profiles else 0)
tenant_total-next history tenant i push short is =
    let next : take (i + 1) history ≡ take i history ++ push ∷ [] =
    rw add-one (take-suc history i push short ∙ ap (λ (last : Push). take i history ++ last ∷ []) (sym is)) in
    rw next (tenant_total-push (take i history) push tenant)

-- no front of a history has a larger total than the whole
pub tenant_total-within : (history : List Push) (tenant : List ℕ) (i : ℕ) (push : Push) → i < length history → push ≡ get_or history i push
    → pointwise nat_eq push.tenant tenant ≡ true
    → tenant_total (take i history) tenant + profiles_total push.profiles ≤ tenant_total history tenant
tenant_total-within history tenant i push short is own =
    rw is (sum_by-filter-more (λ (one : Push). profiles_total one.profiles) (λ one. pointwise nat_eq one.tenant tenant) history i push short (rw is at own))
