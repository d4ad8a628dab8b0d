-- Ids and the numbers of their members, when one more comes.
use Rattle.std.proofs.Common.{◌≡◌, ⊎_elim, ℕ, suc, ◌+◌, ◌-◌, ◌<◌, ◌≤◌, List, [], ◌∷◌, ◌++◌, length, get_or, Bool, true, false, cond, Option, Some, None, Result, Ok, Err, refl, sym, ap, ◌∙◌, arith}
use Rattle.std.specs.Prelude.{◌==◌, nat_lt, not, ◌&&◌, is_some, ◌||◌, position, is_err, OnOk, OnErr, if◌then◌else◌}
use Rattle.std.specs.List.{position_or_len, list_any}
use Rattle.std.specs.Option.{option_or}
use Rattle.std.specs.Map.{lookup}
use Rattle.std.specs.BTreeMap.{is_at}
use Rattle.std.specs.Ordering.{nat_cmp}
use Rattle.std.proofs.lemmas.Bool.{cases_lt, cases_eq, lt-ltb, le-ltb, ltb-true, eq-eqb, ne_eqb, true≢false}
use Rattle.std.proofs.lemmas.Bool.Decides.{nat_tests}
use Rattle.std.proofs.lemmas.List.{length_push, get_or_push, get_or_append_left}
use Rattle.std.proofs.lemmas.List.Sums.{prefix_len-le-length}
use Rattle.std.proofs.lemmas.List.Folds.{position_or_len_push}
use Rattle.pprof_codec.specs.Tables.{number_of, is_in_place, AreNumbered}

pub on_ok : {T E P : Type 0} (r : Result T E) → is_err r ≡ false → OnOk r P → P
on_ok (Ok x) is p = p
on_ok (Err e) is p = absurd (true≢false is)

pub on_err : {T E P : Type 0} (r : Result T E) → is_err r ≡ true → OnErr r P → P
on_err (Ok x) is p = absurd (true≢false (sym is))
on_err (Err e) is p = p

-- ---- the first that passes, in a list with one more

push-numbers : (p n : ℕ) (b : Bool) → p ≤ n
    → cond (nat_lt (cond (p == n) (n + cond b 0 1) p) (n + 1)) (Some (cond (p == n) (n + cond b 0 1) p)) None ≡ option_or (cond (nat_lt p n) (Some p) None) (cond b (Some n) None)
push-numbers p n b most = ⊎_elim before last (cases_lt p n)
  where
    before : p < n → cond (nat_lt (cond (p == n) (n + cond b 0 1) p) (n + 1)) (Some (cond (p == n) (n + cond b 0 1) p)) None ≡ option_or (cond (nat_lt p n) (Some p) None) (cond b (Some n) None)
    before less =
        let apart : (p == n) ≡ false = ne_eqb p n (λ same. omega arith) in
        let one : nat_lt p n ≡ true = lt-ltb p n less in
        let two : nat_lt p (n + 1) ≡ true = lt-ltb p (n + 1) (omega arith) in
        rw (apart, one, two) refl

    here : (b : Bool) → cond (nat_lt (n + cond b 0 1) (n + 1)) (Some (n + cond b 0 1)) None ≡ cond b (Some n) None
    here true =
        let same : n + 0 ≡ n = omega arith in
        let within : nat_lt n (n + 1) ≡ true = lt-ltb n (n + 1) (omega arith) in
        rw (same, within) refl
    here false =
        let past : nat_lt (n + 1) (n + 1) ≡ false = le-ltb (n + 1) (n + 1) (omega arith) in
        rw past refl

    last : n ≤ p → cond (nat_lt (cond (p == n) (n + cond b 0 1) p) (n + 1)) (Some (cond (p == n) (n + cond b 0 1) p)) None ≡ option_or (cond (nat_lt p n) (Some p) None) (cond b (Some n) None)
    last least =
        let same : (p == n) ≡ true = eq-eqb p n (omega arith) in
        let none : nat_lt p n ≡ false = le-ltb p n least in
        rw (same, none) (here b)

pub position-push : {X : Type 0} (p : X → Bool) (xs : List X) (x : X) → position p (xs ++ x ∷ []) ≡ option_or (position p xs) (cond (p x) (Some (length xs)) None)
position-push p xs x =
    rw (position_or_len_push, length_push) (push-numbers (position_or_len p xs) (length xs) (p x) (prefix_len-le-length (λ y. not (p y)) xs))

-- ---- ids that tell their own number

in_place-same : (ids : List ℕ) (id q : ℕ) → (q ≡ length ids + 1 → ⊥) → is_in_place (ids ++ id ∷ []) q ≡ is_in_place ids q
in_place-same ids id q apart = rw length_push (⊎_elim within past (cases_lt (q - 1) (length ids)))
  where
    within : q - 1 < length ids → (nat_lt 0 q && nat_lt (q - 1) (length ids + 1) && (get_or (ids ++ id ∷ []) (q - 1) 0 == q)) ≡ is_in_place ids q
    within less =
        let one : nat_lt (q - 1) (length ids) ≡ true = lt-ltb _ _ less in
        let two : nat_lt (q - 1) (length ids + 1) ≡ true = lt-ltb _ _ (omega arith) in
        rw (one, two, get_or_append_left ids (id ∷ []) 0 (q - 1) less) refl

    past : length ids ≤ q - 1 → (nat_lt 0 q && nat_lt (q - 1) (length ids + 1) && (get_or (ids ++ id ∷ []) (q - 1) 0 == q)) ≡ is_in_place ids q
    past least = by (nat_lt 0 q) refl
      where
        by : (b : Bool) → nat_lt 0 q ≡ b → (b && nat_lt (q - 1) (length ids + 1) && (get_or (ids ++ id ∷ []) (q - 1) 0 == q)) ≡ (b && nat_lt (q - 1) (length ids) && (get_or ids (q - 1) 0 == q))
        by false is = refl
        by true is =
            let some : 0 < q = ltb-true 0 q is in
            let one : nat_lt (q - 1) (length ids) ≡ false = le-ltb _ _ least in
            let two : nat_lt (q - 1) (length ids + 1) ≡ false = le-ltb _ _ (omega arith) in
            rw (one, two) refl

in_place-last : (ids : List ℕ) (id : ℕ) → is_in_place (ids ++ id ∷ []) (length ids + 1) ≡ (id == (length ids + 1))
in_place-last ids id =
    let one : nat_lt 0 (length ids + 1) ≡ true = lt-ltb _ _ (omega arith) in
    let back : length ids + 1 - 1 ≡ length ids = omega arith in
    let two : nat_lt (length ids) (length ids + 1) ≡ true = lt-ltb _ _ (omega arith) in
    rw (length_push, one, back, two, get_or_push ids id 0 (length ids) refl) refl

in_place-none : (ids : List ℕ) → is_in_place ids (length ids + 1) ≡ false
in_place-none ids =
    let one : nat_lt 0 (length ids + 1) ≡ true = lt-ltb _ _ (omega arith) in
    let back : length ids + 1 - 1 ≡ length ids = omega arith in
    let two : nat_lt (length ids) (length ids) ≡ false = le-ltb _ _ (omega arith) in
    rw (one, back, two) refl

-- ---- numbers by id

at-same : (id : ℕ) → is_at (nat_cmp id) id ≡ true
at-same id = grind (arith, nat_tests)

at-other : (id q : ℕ) → (q ≡ id → ⊥) → is_at (nat_cmp id) q ≡ false
at-other id q apart = grind (arith, nat_tests)

or-none : {X : Type 0} (found : Option X) → option_or found None ≡ found
or-none None = refl
or-none (Some x) = refl

number-push : (ids : List ℕ) (id q : ℕ) → number_of (ids ++ id ∷ []) q ≡ option_or (number_of ids q) (cond (id == q) (Some (length ids)) None)
number-push ids id q = position-push (λ known. known == q) ids id

number-own : (ids : List ℕ) (id : ℕ) → number_of ids id ≡ None → number_of (ids ++ id ∷ []) id ≡ Some (length ids)
number-own ids id new =
    number-push ids id id ∙ ap (λ found. option_or found (cond (id == id) (Some (length ids)) None)) new
    ∙ ap (λ b. cond b (Some (length ids)) None) (eq-eqb id id refl)

number-others : (ids : List ℕ) (id q : ℕ) → (q ≡ id → ⊥) → number_of (ids ++ id ∷ []) q ≡ number_of ids q
number-others ids id q apart =
    number-push ids id q ∙ ap (λ b. option_or (number_of ids q) (cond b (Some (length ids)) None)) (ne_eqb id q (λ same. apart (sym same)))
    ∙ or-none (number_of ids q)

abbrev told : Bool → ℕ → Option ℕ → Option ℕ
told in_place q other = if in_place then Some (q - 1) else other

pub numbered-none : AreNumbered [] []
numbered-none q = by (nat_lt 0 q)
  where
    by : (b : Bool) → told (b && nat_lt (q - 1) 0 && (get_or [] (q - 1) 0 == q)) q None ≡ None
    by false = refl
    by true = let past : nat_lt (q - 1) 0 ≡ false = le-ltb _ _ (omega arith) in rw past refl

-- the id of the next place
pub numbered-in_place : (ids : List ℕ) (others : List (ℕ × ℕ)) (id : ℕ) → id ≡ length ids + 1 → number_of ids id ≡ None
    → AreNumbered ids others → AreNumbered (ids ++ id ∷ []) others
numbered-in_place ids others id is new all q = ⊎_elim here apart (cases_eq q id)
  where
    other : Option ℕ
    other = lookup (is_at (nat_cmp q)) others

    here : q ≡ id → told (is_in_place (ids ++ id ∷ []) q) q (lookup (is_at (nat_cmp q)) others) ≡ number_of (ids ++ id ∷ []) q
    here same =
        let place : is_in_place (ids ++ id ∷ []) q ≡ true = ap (is_in_place (ids ++ id ∷ [])) (same ∙ is) ∙ in_place-last ids id ∙ eq-eqb id (length ids + 1) is in
        let back : q - 1 ≡ length ids = omega arith in
        ap (λ b. told b q (lookup (is_at (nat_cmp q)) others)) place ∙ ap Some back ∙ sym (number-own ids id new) ∙ ap (number_of (ids ++ id ∷ [])) (sym same)

    apart : (q ≡ id → ⊥) → told (is_in_place (ids ++ id ∷ []) q) q (lookup (is_at (nat_cmp q)) others) ≡ number_of (ids ++ id ∷ []) q
    apart differ =
        ap (λ b. told b q (lookup (is_at (nat_cmp q)) others)) (in_place-same ids id q (λ same. differ (same ∙ sym is)))
        ∙ all q ∙ sym (number-others ids id q differ)

-- another id, whose number was put to the others
pub numbered-other : (ids : List ℕ) (others grown : List (ℕ × ℕ)) (id : ℕ) → (id ≡ length ids + 1 → ⊥) → number_of ids id ≡ None
    → ((q : ℕ) → lookup (is_at (nat_cmp q)) grown ≡ cond (is_at (nat_cmp id) q) (Some (length ids)) (lookup (is_at (nat_cmp q)) others))
    → AreNumbered ids others → AreNumbered (ids ++ id ∷ []) grown
numbered-other ids others grown id elsewhere new put all q = ⊎_elim here apart (cases_eq q id)
  where
    not_placed : (b : Bool) → told b id (lookup (is_at (nat_cmp id)) others) ≡ None → b ≡ false
    not_placed false h = refl
    not_placed true h = cc

    here : q ≡ id → told (is_in_place (ids ++ id ∷ []) q) q (lookup (is_at (nat_cmp q)) grown) ≡ number_of (ids ++ id ∷ []) q
    here same =
        let old : is_in_place ids id ≡ false = not_placed (is_in_place ids id) (all id ∙ new) in
        let place : is_in_place (ids ++ id ∷ []) q ≡ false = ap (is_in_place (ids ++ id ∷ [])) same ∙ in_place-same ids id id elsewhere ∙ old in
        ap (λ b. told b q (lookup (is_at (nat_cmp q)) grown)) place
        ∙ put q ∙ ap (λ b. cond b (Some (length ids)) (lookup (is_at (nat_cmp q)) others)) (ap (is_at (nat_cmp id)) same ∙ at-same id)
        ∙ sym (number-own ids id new) ∙ ap (number_of (ids ++ id ∷ [])) (sym same)

    kept : (q ≡ id → ⊥) → lookup (is_at (nat_cmp q)) grown ≡ lookup (is_at (nat_cmp q)) others
    kept differ = put q ∙ ap (λ b. cond b (Some (length ids)) (lookup (is_at (nat_cmp q)) others)) (at-other id q differ)

    last : (q ≡ id → ⊥) → q ≡ length ids + 1 → is_in_place (ids ++ id ∷ []) q ≡ is_in_place ids q
    last differ same =
        ap (is_in_place (ids ++ id ∷ [])) same ∙ in_place-last ids id ∙ ne_eqb id (length ids + 1) elsewhere
        ∙ sym (in_place-none ids) ∙ ap (is_in_place ids) (sym same)

    apart : (q ≡ id → ⊥) → told (is_in_place (ids ++ id ∷ []) q) q (lookup (is_at (nat_cmp q)) grown) ≡ number_of (ids ++ id ∷ []) q
    apart differ =
        let place : is_in_place (ids ++ id ∷ []) q ≡ is_in_place ids q = ⊎_elim (last differ) (in_place-same ids id q) (cases_eq q (length ids + 1)) in
        ap (λ b. told b q (lookup (is_at (nat_cmp q)) grown)) place ∙ ap (told (is_in_place ids q) q) (kept differ)
        ∙ all q ∙ sym (number-others ids id q differ)

-- ---- an id that is there

within-any : {X : Type 0} (p : X → Bool) (xs : List X) → nat_lt (position_or_len p xs) (length xs) ≡ list_any p xs
within-any p [] = refl
within-any p (x ∷ xs) = by (p x) (within-any p xs)
  where
    by : (b : Bool) → nat_lt (position_or_len p xs) (length xs) ≡ list_any p xs
        → nat_lt (cond (not b) (1 + position_or_len p xs) 0) (suc (length xs)) ≡ (b || list_any p xs)
    by true h = lt-ltb 0 (suc (length xs)) (omega arith)
    by false h =
        let same : nat_lt (1 + position_or_len p xs) (suc (length xs)) ≡ nat_lt (position_or_len p xs) (length xs) = grind (arith, nat_tests) in same ∙ h

pub position-is_some : {X : Type 0} (p : X → Bool) (xs : List X) → is_some (position p xs) ≡ list_any p xs
position-is_some p xs = by (nat_lt (position_or_len p xs) (length xs)) ∙ within-any p xs
  where
    by : (b : Bool) → is_some (cond b (Some (position_or_len p xs)) None) ≡ b
    by true = refl
    by false = refl

pub number-none : (ids : List ℕ) (id : ℕ) → list_any (λ known. known == id) ids ≡ false → number_of ids id ≡ None
number-none ids id is = by (number_of ids id) (position-is_some (λ known. known == id) ids ∙ is)
  where
    by : (found : Option ℕ) → is_some found ≡ false → found ≡ None
    by None h = refl
    by (Some n) h = absurd (true≢false h)
