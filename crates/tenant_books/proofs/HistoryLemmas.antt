-- What more pushes do to where tenants stand.
use Rattle.std.proofs.Common.{◌≡◌, ◌+◌, ◌^◌, ◌≤◌, ◌<◌, ◌∙◌, ℕ, List, [], ◌∷◌, ◌++◌, take, drop, get_or, length, refl, sym, ap, subst, arith, Bool, true, false, cond, add-one}
use Rattle.std.proofs.Math.Seq.{take-suc}
use Rattle.std.proofs.lemmas.List.{append_assoc, length-append, take-append-drop}
use Rattle.std.proofs.lemmas.List.Sums.{sum_by-cons}
use Rattle.std.specs.Prelude.{nat_eq, if◌then◌else◌}
use Rattle.std.specs.Cmp.Lexicographic.{bytes_decides, pointwise}
use Rattle.profile_model.specs.Pushes.{profiles_total}
use Rattle.profile_model.specs.declared.push.Push.{Push}
use Rattle.push_history.specs.History.{HasBoundedTotals, front_of, pushes_of, pushes_total, tenant_total}

pub total-append : (history pushes : List Push) (tenant : List ℕ) → tenant_total (history ++ pushes) tenant ≡ tenant_total history tenant + tenant_total pushes tenant
total-append [] pushes tenant = omega arith
total-append (push ∷ history) pushes tenant = by (pointwise nat_eq push.tenant tenant) (total-append history pushes tenant)
  where
    by : (own : Bool) → tenant_total (history ++ pushes) tenant ≡ tenant_total history tenant + tenant_total pushes tenant
        → pushes_total (cond own (push ∷ pushes_of (history ++ pushes) tenant) (pushes_of (history ++ pushes) tenant))
        ≡ pushes_total (cond own (push ∷ pushes_of history tenant) (pushes_of history tenant)) + tenant_total pushes tenant
    by true later = omega (arith, sum_by-cons (λ (one : Push). profiles_total one.profiles) push (pushes_of (history ++ pushes) tenant), sum_by-cons (λ (one : Push). profiles_total one.profiles) push (pushes_of history tenant))
    by false later = later

pub front-append : (history pushes : List Push) (tenant : List ℕ) → front_of (history ++ pushes) tenant ≡ front_of history tenant + front_of pushes tenant
front-append [] pushes tenant = omega arith
front-append (push ∷ history) pushes tenant = by (pointwise nat_eq push.tenant tenant) (front-append history pushes tenant)
  where
    by : (own : Bool) → front_of (history ++ pushes) tenant ≡ front_of history tenant + front_of pushes tenant
        → length (cond own (push ∷ pushes_of (history ++ pushes) tenant) (pushes_of (history ++ pushes) tenant))
        ≡ length (cond own (push ∷ pushes_of history tenant) (pushes_of history tenant)) + front_of pushes tenant
    by true later = omega arith
    by false later = later

pub front-of-push : (push : Push) (tenant : List ℕ) → front_of (push ∷ []) tenant ≡ (if pointwise nat_eq push.tenant tenant then 1 else 0)
front-of-push push tenant = by (pointwise nat_eq push.tenant tenant)
  where
    by : (own : Bool) → length {A = Push} (cond own (push ∷ []) []) ≡ cond own 1 0
    by true = refl
    by false = refl

pub total-of-push : (push : Push) (tenant : List ℕ) → tenant_total (push ∷ []) tenant ≡ (if pointwise nat_eq push.tenant tenant then profiles_total push.profiles else 0)
total-of-push push tenant = by (pointwise nat_eq push.tenant tenant)
  where
    by : (own : Bool) → pushes_total (cond own (push ∷ []) []) ≡ cond own (profiles_total push.profiles) 0
    by true = omega (arith, sum_by-cons (λ (one : Push). profiles_total one.profiles) push [])
    by false = refl

-- a tenant has no more pushes than there are
pub front-within : (history : List Push) (tenant : List ℕ) → front_of history tenant ≤ length history
front-within [] tenant = omega arith
front-within (push ∷ history) tenant = by (pointwise nat_eq push.tenant tenant) (front-within history tenant)
  where
    by : (own : Bool) → front_of history tenant ≤ length history
        → length (cond own (push ∷ pushes_of history tenant) (pushes_of history tenant)) ≤ length (push ∷ history)
    by true later = omega arith
    by false later = omega arith

-- the totals of the first pushes are bounded where those of all are
pub bounded-front : (history pushes : List Push) → HasBoundedTotals (history ++ pushes) → HasBoundedTotals history
bounded-front history pushes bounded tenant = let all = bounded tenant in omega (arith, total-append history pushes tenant)

-- ---- the first pushes of a list, behind a history

pub next-behind : (history pushes : List Push) (i : ℕ) (push : Push) → i < length pushes → push ≡ get_or pushes i push
    → (history ++ take i pushes) ++ push ∷ [] ≡ history ++ take (i + 1) pushes
next-behind history pushes i push short is =
    append_assoc history (take i pushes) (push ∷ [])
    ∙ ap (λ more. history ++ more) (sym (rw add-one (take-suc pushes i push short ∙ ap (λ (last : Push). take i pushes ++ last ∷ []) (sym is))))

all-behind : (history pushes : List Push) (i : ℕ) → history ++ pushes ≡ (history ++ take i pushes) ++ drop i pushes
all-behind history pushes i = ap (λ more. history ++ more) (sym (take-append-drop i pushes)) ∙ sym (append_assoc history (take i pushes) (drop i pushes))

pub bounded-behind : (history pushes : List Push) (i : ℕ) → HasBoundedTotals (history ++ pushes) → HasBoundedTotals (history ++ take i pushes)
bounded-behind history pushes i bounded = bounded-front (history ++ take i pushes) (drop i pushes) (subst HasBoundedTotals (all-behind history pushes i) bounded)

pub short-behind : (history pushes : List Push) (i : ℕ) → length (history ++ pushes) < 2 ^ 63 → length (history ++ take i pushes) < 2 ^ 63
short-behind history pushes i short =
    let all = ap (length {A = Push}) (all-behind history pushes i) in
    let parts = length-append (history ++ take i pushes) (drop i pushes) in omega arith

-- what a push adds to its own tenant's total
pub total-own : (history : List Push) (push : Push) → tenant_total (history ++ push ∷ []) push.tenant ≡ tenant_total history push.tenant + profiles_total push.profiles
total-own history push =
    total-append history (push ∷ []) push.tenant
    ∙ ap (λ added. tenant_total history push.tenant + added) (total-of-push push push.tenant ∙ ap (λ (own : Bool). if own then profiles_total push.profiles else 0) ((bytes_decides push.tenant push.tenant).1 refl))
