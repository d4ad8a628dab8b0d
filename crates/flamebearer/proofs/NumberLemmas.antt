-- Names and their numbers, when one more comes.
use Rattle.std.proofs.Common.{◌≡◌, ⊎_elim, ℕ, suc, ◌+◌, ◌<◌, ◌≤◌, List, [], ◌∷◌, ◌++◌, length, Bool, true, false, cond, Option, Some, None, refl, sym, ap, ◌∙◌, arith}
use Rattle.std.specs.Prelude.{◌==◌, ◌||◌, nat_eq, nat_lt, not, is_some, position}
use Rattle.std.specs.List.{position_or_len, list_any}
use Rattle.std.specs.Option.{option_or}
use Rattle.std.specs.Map.{lookup}
use Rattle.std.specs.BTreeMap.{is_at}
use Rattle.std.specs.Cmp.Lexicographic.{bytes_decides, nat_list_eq_equiv, pointwise, texts_ties}
use Rattle.std.proofs.lemmas.Bool.{cases_lt, lt-ltb, le-ltb, eq-eqb, ne_eqb, true≢false}
use Rattle.std.proofs.lemmas.Bool.Decides.{nat_tests}
use Rattle.std.proofs.lemmas.List.{length_push}
use Rattle.std.proofs.lemmas.List.Sums.{prefix_len-le-length}
use Rattle.std.proofs.lemmas.List.Folds.{position_or_len_push}
use Rattle.profile_model.specs.Stacks.{name_cmp}
use Rattle.flamebearer.specs.Names.{AreNumbered, with_name}

-- ---- the first that passes, in a list with one more

push-numbers : (p n : ℕ) (b : Bool) → p ≤ n
    → cond (nat_lt (cond (p == n) (n + cond b 0 1) p) (n + 1)) (Some (cond (p == n) (n + cond b 0 1) p)) None ≡ option_or (cond (nat_lt p n) (Some p) None) (cond b (Some n) None)
push-numbers p n b most = ⊎_elim before last (cases_lt p n)
  where
    before : p < n → cond (nat_lt (cond (p == n) (n + cond b 0 1) p) (n + 1)) (Some (cond (p == n) (n + cond b 0 1) p)) None ≡ option_or (cond (nat_lt p n) (Some p) None) (cond b (Some n) None)
    before less =
        let apart : (p == n) ≡ false = ne_eqb p n (λ same. omega arith) in
        let one : nat_lt p n ≡ true = lt-ltb p n less in
        let two : nat_lt p (n + 1) ≡ true = lt-ltb p (n + 1) (omega arith) in
        rw (apart, one, two) refl

    here : (b : Bool) → cond (nat_lt (n + cond b 0 1) (n + 1)) (Some (n + cond b 0 1)) None ≡ cond b (Some n) None
    here true =
        let same : n + 0 ≡ n = omega arith in
        let within : nat_lt n (n + 1) ≡ true = lt-ltb n (n + 1) (omega arith) in
        rw (same, within) refl
    here false =
        let past : nat_lt (n + 1) (n + 1) ≡ false = le-ltb (n + 1) (n + 1) (omega arith) in
        rw past refl

    last : n ≤ p → cond (nat_lt (cond (p == n) (n + cond b 0 1) p) (n + 1)) (Some (cond (p == n) (n + cond b 0 1) p)) None ≡ option_or (cond (nat_lt p n) (Some p) None) (cond b (Some n) None)
    last least =
        let same : (p == n) ≡ true = eq-eqb p n (omega arith) in
        let none : nat_lt p n ≡ false = le-ltb p n least in
        rw (same, none) (here b)

position-push : {X : Type 0} (p : X → Bool) (xs : List X) (x : X) → position p (xs ++ x ∷ []) ≡ option_or (position p xs) (cond (p x) (Some (length xs)) None)
position-push p xs x =
    rw (position_or_len_push, length_push) (push-numbers (position_or_len p xs) (length xs) (p x) (prefix_len-le-length (λ y. not (p y)) xs))

within-any : {X : Type 0} (p : X → Bool) (xs : List X) → nat_lt (position_or_len p xs) (length xs) ≡ list_any p xs
within-any p [] = refl
within-any p (x ∷ xs) = by (p x) (within-any p xs)
  where
    by : (b : Bool) → nat_lt (position_or_len p xs) (length xs) ≡ list_any p xs
        → nat_lt (cond (not b) (1 + position_or_len p xs) 0) (suc (length xs)) ≡ (b || list_any p xs)
    by true h = lt-ltb 0 (suc (length xs)) (omega arith)
    by false h =
        let same : nat_lt (1 + position_or_len p xs) (suc (length xs)) ≡ nat_lt (position_or_len p xs) (length xs) = grind (arith, nat_tests) in same ∙ h

position-is_some : {X : Type 0} (p : X → Bool) (xs : List X) → is_some (position p xs) ≡ list_any p xs
position-is_some p xs = by (nat_lt (position_or_len p xs) (length xs)) ∙ within-any p xs
  where
    by : (b : Bool) → is_some (cond b (Some (position_or_len p xs)) None) ≡ b
    by true = refl
    by false = refl

-- ---- numbers by name

pub numbered-none : AreNumbered [] []
numbered-none name = refl

-- whether a name has a number already
pub is-there : (names : List (List ℕ)) (numbers : List (List ℕ × ℕ)) (name : List ℕ) → AreNumbered names numbers
    → is_some (lookup (is_at (name_cmp name)) numbers) ≡ list_any (pointwise nat_eq name) names
is-there names numbers name are = ap is_some (are name) ∙ position-is_some (pointwise nat_eq name) names

pub with-old : (names : List (List ℕ)) (name : List ℕ) → list_any (pointwise nat_eq name) names ≡ true → names ≡ with_name names name
with-old names name is = sym (ap (λ b. cond b names (names ++ name ∷ [])) is)

pub with-new : (names : List (List ℕ)) (name : List ℕ) → list_any (pointwise nat_eq name) names ≡ false → names ++ name ∷ [] ≡ with_name names name
with-new names name is = sym (ap (λ b. cond b names (names ++ name ∷ [])) is)

pub numbered-more : (names : List (List ℕ)) (numbers grown : List (List ℕ × ℕ)) (name : List ℕ) → list_any (pointwise nat_eq name) names ≡ false
    → ((q : List ℕ) → lookup (is_at (name_cmp q)) grown ≡ cond (is_at (name_cmp name) q) (Some (length names)) (lookup (is_at (name_cmp q)) numbers))
    → AreNumbered names numbers → AreNumbered (names ++ name ∷ []) grown
numbered-more names numbers grown name new put are q = put q ∙ by (pointwise nat_eq name q) refl ∙ sym (position-push (pointwise nat_eq q) names name)
  where
    none : (found : Option ℕ) → is_some found ≡ false → found ≡ None
    none None h = refl
    none (Some n) h = absurd (true≢false h)

    or-none : (found : Option ℕ) → option_or found None ≡ found
    or-none None = refl
    or-none (Some x) = refl

    by : (b : Bool) → pointwise nat_eq name q ≡ b
        → cond (is_at (name_cmp name) q) (Some (length names)) (lookup (is_at (name_cmp q)) numbers) ≡ option_or (position (pointwise nat_eq q) names) (cond (pointwise nat_eq q name) (Some (length names)) None)
    by true is =
        let same : name ≡ q = (bytes_decides name q).0 is in
        let first : position (pointwise nat_eq q) names ≡ None = ap (λ n. position (pointwise nat_eq n) names) (sym same) ∙ none _ (position-is_some (pointwise nat_eq name) names ∙ new) in
        ap (λ b. cond b (Some (length names)) (lookup (is_at (name_cmp q)) numbers)) (sym (texts_ties name q) ∙ is)
        ∙ sym ((λ i. option_or (first i) (cond ((nat_list_eq_equiv.symm q name ∙ is) i) (Some (length names)) None)))
    by false is =
        ap (λ b. cond b (Some (length names)) (lookup (is_at (name_cmp q)) numbers)) (sym (texts_ties name q) ∙ is)
        ∙ are q ∙ sym (or-none (position (pointwise nat_eq q) names))
        ∙ ap (λ b. option_or (position (pointwise nat_eq q) names) (cond b (Some (length names)) None)) (sym (nat_list_eq_equiv.symm q name ∙ is))

-- what a name that isn't there yet makes of the names
pub record IsAdded (names after : List (List ℕ)) (name : List ℕ) : Type 0 where
  pub pushed : after ≡ names ++ name ∷ []
  pub new : list_any (pointwise nat_eq name) names ≡ false

pub added : (names after : List (List ℕ)) (numbers : List (List ℕ × ℕ)) (name copy : List ℕ) (there : Bool) → AreNumbered names numbers
    → there ≡ is_some (lookup (is_at (name_cmp name)) numbers) → there ≡ false → copy ≡ name → after ≡ names ++ copy ∷ [] → IsAdded names after name
added names after numbers name copy there are is absent same new = record {
  pushed = new ∙ ap (λ n. names ++ n ∷ []) same;
  new = sym (is-there names numbers name are) ∙ sym is ∙ absent;
}
