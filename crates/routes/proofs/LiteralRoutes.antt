-- Where no route has a parameter, a path finds exactly the route with its own text.
use Rattle.std.proofs.Common.{◌≡◌, ℕ, zero, suc, ◌<◌, ◌≤◌, ◌-◌, List, [], ◌∷◌, map, length, get_or, Option, Some, None, option_map, refl, ap, ◌∙◌, arith, Bool, true, false, cond, ◌&&◌, ltb, nat_eq, codes}
use Rattle.std.proofs.lemmas.Bool.{and_parts, and_from, ltb-true, ne_eqb}
use Rattle.std.specs.Cmp.Lexicographic.{pointwise, bytes_decides}
use Rattle.std.specs.Str.{IsUtf8}
use Rattle.std.proofs.lemmas.Str.{IsUtf8-from_ascii}
use Rattle.std.specs.Prelude.{◌==◌}
use Rattle.matchit.specs.Rows.{RowsOf, param_token, catch_all_token}
use Rattle.matchit.specs.Router.{RouteOf}
use Rattle.routes.specs.Paths.{route_in, table, IsRouter}
use Rattle.routes.specs.declared.route.Route.{Route}
use Rattle.matchit.specs.Seek.{seek, first, own, step, or_else, param_step, has_slash}

-- the pattern has bytes alone
abbrev pub is_literal : List ℕ → Bool
is_literal [] = true
is_literal (x ∷ t) = ltb x param_token && is_literal t

module _ {K : Type 0} where
  abbrev pub are_literal : RowsOf K → Bool
  are_literal [] = true
  are_literal ((t, k) ∷ rest) = is_literal t && are_literal rest

  -- what is kept under exactly this pattern
  abbrev pub exact : RowsOf K → List ℕ → Option K
  exact [] path = None
  exact ((t, k) ∷ rest) path = cond (pointwise nat_eq t path) (Some k) (exact rest path)

  own-exact : (rs : RowsOf K) → own rs ≡ exact rs []
  own-exact [] = refl
  own-exact (([], k) ∷ rest) = refl
  own-exact ((x ∷ t, k) ∷ rest) = own-exact rest

  exact-step : (b : ℕ) (path : List ℕ) (rs : RowsOf K) → exact (step b rs) path ≡ exact rs (b ∷ path)
  exact-step b path [] = refl
  exact-step b path (([], k) ∷ rest) = exact-step b path rest
  exact-step b path ((x ∷ t, k) ∷ rest) = by (nat_eq x b) (exact-step b path rest)
    where
      by : (same : Bool) → exact (step b rest) path ≡ exact rest (b ∷ path) →
          exact (cond same ((t, k) ∷ step b rest) (step b rest)) path ≡ cond (same && pointwise nat_eq t path) (Some k) (exact rest (b ∷ path))
      by true e = ap (cond (pointwise nat_eq t path) (Some k)) e
      by false e = e

  literal-step : (b : ℕ) (rs : RowsOf K) → are_literal rs ≡ true → are_literal (step b rs) ≡ true
  literal-step b [] h = refl
  literal-step b (([], k) ∷ rest) h = literal-step b rest h
  literal-step b ((x ∷ t, k) ∷ rest) h =
      let parts = and_parts (is_literal (x ∷ t)) (are_literal rest) h in
      by (nat_eq x b) (and_parts (ltb x param_token) (is_literal t) parts.0).1 (literal-step b rest parts.1)
    where
      by : (same : Bool) → is_literal t ≡ true → are_literal (step b rest) ≡ true →
          are_literal (cond same ((t, k) ∷ step b rest) (step b rest)) ≡ true
      by true here later = and_from _ _ here later
      by false here later = later

  no-step : (b : ℕ) → param_token ≤ b → (rs : RowsOf K) → are_literal rs ≡ true → step b rs ≡ []
  no-step b past [] h = refl
  no-step b past (([], k) ∷ rest) h = no-step b past rest h
  no-step b past ((x ∷ t, k) ∷ rest) h =
      let parts = and_parts (is_literal (x ∷ t)) (are_literal rest) h in
      let below = ltb-true x param_token (and_parts (ltb x param_token) (is_literal t) parts.0).0 in
      let other : (x == b) ≡ false = ne_eqb x b (λ e. absurd (omega arith)) in
      rw other (no-step b past rest parts.1)

  or_else-none : (o : Option K) → or_else o None ≡ o
  or_else-none None = refl
  or_else-none (Some k) = refl

  param_step-none : (path : List ℕ) → (param_step {K = K} [] path).1 ≡ []
  unfolding param_step
  param_step-none path = by (has_slash path)
    where
      by : (slash : Bool) → (let pair : ℕ × RowsOf K = cond slash (0, []) (length path, []) in pair.1) ≡ []
      by true = refl
      by false = refl

  seek-none : (n : ℕ) (path : List ℕ) → seek {K = K} n [] path ≡ None
  unfolding seek
  seek-none n [] = refl
  seek-none (suc n) (b ∷ path) = seek-none n path
  seek-none zero (b ∷ path) = rw (seek-none 0 path, param_step-none (b ∷ path), seek-none ((param_step {K = K} [] (b ∷ path)).0 - 1) path)

  pub seek-exact : (rs : RowsOf K) (path : List ℕ) → are_literal rs ≡ true → first rs path ≡ exact rs path
  unfolding seek
  seek-exact rs [] h = own-exact rs
  seek-exact rs (b ∷ path) h =
      rw (
        no-step param_token (omega arith) rs h,
        no-step catch_all_token (omega arith) rs h,
        param_step-none (b ∷ path),
        seek-none ((param_step {K = K} [] (b ∷ path)).0 - 1) path,
        or_else-none (seek 0 (step b rs) path),
      )
      (seek-exact (step b rs) path (literal-step b rs h) ∙ exact-step b path rs)

-- the same of the routes alone
pub exact-routes : (rs : RowsOf (RouteOf Route)) (path : List ℕ) →
    option_map (λ row. row.value) (exact rs path) ≡ route_in (map (λ row. (row.0, row.1.value)) rs) path
exact-routes [] path = refl
exact-routes ((t, k) ∷ rest) path = by (pointwise nat_eq t path) (exact-routes rest path)
  where
    by : (same : Bool) → option_map (λ row. row.value) (exact rest path) ≡ route_in (map (λ row. (row.0, row.1.value)) rest) path →
        option_map (λ row. row.value) (cond same (Some k) (exact rest path))
        ≡ cond same (Some k.value) (route_in (map (λ row. (row.0, row.1.value)) rest) path)
    by true e = refl
    by false e = e

abbrev row : List ℕ → Route → List ℕ × RouteOf Route
row path route = (path, record { pattern = path; text = path; names = []; value = route })

-- what the router holds once all routes are in
abbrev pub all_rows : RowsOf (RouteOf Route)
all_rows = map (λ entry. row entry.0 entry.1) table

pub finds_table : IsRouter all_rows
finds_table path = ap (option_map (λ row. row.value)) (seek-exact all_rows path refl) ∙ exact-routes all_rows path

-- ---- a path that is no UTF-8

abbrev is_low : List ℕ → Bool
is_low [] = true
is_low (b ∷ bytes) = ltb b 128 && is_low bytes

low_is_ascii : (bytes : List ℕ) → is_low bytes ≡ true → (i : ℕ) → get_or bytes i 0 < 128
low_is_ascii [] low i = omega arith
low_is_ascii (b ∷ bytes) low zero = ltb-true b 128 (and_parts (ltb b 128) (is_low bytes) low).0
low_is_ascii (b ∷ bytes) low (suc i) = low_is_ascii bytes (and_parts (ltb b 128) (is_low bytes) low).1 i

abbrev are_low : List (List ℕ × Route) → Bool
are_low [] = true
are_low (entry ∷ rest) = is_low entry.0 && are_low rest

nowhere : (entries : List (List ℕ × Route)) (path : List ℕ) → are_low entries ≡ true → ¬ (IsUtf8 path) → None ≡ route_in entries path
nowhere [] path low broken = refl
nowhere (entry ∷ rest) path low broken = let parts = and_parts (is_low entry.0) (are_low rest) low in
    by (pointwise nat_eq entry.0 path) refl (IsUtf8-from_ascii entry.0 (low_is_ascii entry.0 parts.0)) (nowhere rest path parts.1 broken)
  where
    by : (same : Bool) → pointwise nat_eq entry.0 path ≡ same → IsUtf8 entry.0 → None ≡ route_in rest path → None ≡ cond same (Some entry.1) (route_in rest path)
    by true equal text later = let same : entry.0 ≡ path = (bytes_decides entry.0 path).0 equal in absurd (broken (rw same at text))
    by false equal text later = later

-- no route's path is anything but UTF-8
pub broken_path_is_no_route : (path : List ℕ) → ¬ (IsUtf8 path) → None ≡ route_in table path
broken_path_is_no_route path broken = nowhere table path refl broken
