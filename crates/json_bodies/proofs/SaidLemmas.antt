-- Lists whose members each say something, and the first that doesn't.
use Rattle.std.proofs.Common.{◌≡◌, ℕ, suc, ◌+◌, ◌<◌, List, [], ◌∷◌, ◌++◌, length, map, get_or, take, drop, Bool, Option, Some, None, refl, sym, ap, ◌∙◌, cond, not, arith, drop-cons}
use Rattle.std.specs.Option.{is_none, option_map, option_and_then}
use Rattle.std.specs.List.{position, position_or_len}
use Rattle.std.proofs.lemmas.List.{map-append, take_more, take-append-drop, length-map, length-take-le}
use Rattle.std.proofs.lemmas.Bool.{lt-ltb}
use Rattle.std.proofs.lemmas.Option.{none-some, same_Some}
use Rattle.serde_json.specs.Data.{Data}
use Rattle.serde_json.specs.View.{items_of}
use Rattle.json_bodies.specs.Fields.{each_said, values_in}
use Rattle.json_bodies.specs.Pushes.{first_silent}

-- the values of a list are those that it was made of
pub values_in-items_of : (values : List Data) → values_in (items_of values) ≡ values
values_in-items_of [] = refl
values_in-items_of (value ∷ more) = ap (λ rest. value ∷ rest) (values_in-items_of more)

-- what the first of a list and the rest of it say
abbrev joined : {B : Type 0} → Option B → Option (List B) → Option (List B)
joined first rest = option_and_then (λ b. option_map (λ bs. b ∷ bs) rest) first

joined_more : {B : Type 0} (first : Option B) (rest longer : Option (List B)) (found : List B) (b : B)
    → ((bs : List B) → rest ≡ Some bs → longer ≡ Some (bs ++ b ∷ []))
    → joined first rest ≡ Some found → joined first longer ≡ Some (found ++ b ∷ [])
joined_more None rest longer found b later e = absurd (none-some _ e)
joined_more (Some c) None longer found b later e = absurd (none-some _ e)
joined_more (Some c) (Some bs) longer found b later e = rw (later bs refl, ← (same_Some _ _ e))

pub each_said_push : {A B : Type 0} (says : A → Option B) (xs : List A) (x : A) (b : B) (found : List B)
    → each_said says xs ≡ Some found → says x ≡ Some b → each_said says (xs ++ x ∷ []) ≡ Some (found ++ b ∷ [])
each_said_push says [] x b found e here = rw (here, ← (same_Some _ _ e))
each_said_push says (y ∷ xs) x b found e here =
    joined_more (says y) (each_said says xs) _ found b (λ bs rest. each_said_push says xs x b bs rest here) e

joined_none : {B : Type 0} (first : Option B) → joined first None ≡ None
joined_none None = refl
joined_none (Some b) = refl

-- a list with a member that says nothing says nothing
pub each_said_none : {A B : Type 0} (says : A → Option B) (xs ys : List A) (x : A) → says x ≡ None → each_said says (xs ++ x ∷ ys) ≡ None
each_said_none says [] ys x here = rw here
each_said_none says (y ∷ xs) ys x here = rw (each_said_none says xs ys x here) (joined_none (says y))

next_silent : {B : Type 0} (first : Option B) (rest : Option (List B)) (found : List B) (n m : ℕ)
    → joined first rest ≡ Some found → ((bs : List B) → rest ≡ Some bs → n ≡ m) → cond (not (is_none first)) (1 + n) 0 ≡ suc m
next_silent None rest found n m e later = absurd (none-some _ e)
next_silent (Some b) None found n m e later = absurd (none-some _ e)
next_silent (Some b) (Some bs) found n m e later = let same = later bs refl in omega arith

pub silent_here : {A B : Type 0} (says : A → Option B) (xs ys : List A) (x : A) (found : List B)
    → each_said says xs ≡ Some found → says x ≡ None → position_or_len (λ y. is_none (says y)) (xs ++ x ∷ ys) ≡ length xs
silent_here says [] ys x found e here = rw here
silent_here says (y ∷ xs) ys x found e here =
    next_silent (says y) (each_said says xs) found _ _ e (λ bs rest. silent_here says xs ys x bs rest here)

-- ---- the members of a slice, seen by f

-- the first i members say what was found, and so does the next
pub each_said_more : {X A B : Type 0} (f : X → A) (says : A → Option B) (xs : List X) (i : ℕ) (x : X) (b : B) (found : List B)
    → i < length xs → x ≡ get_or xs i x → each_said says (map f (take i xs)) ≡ Some found → says (f x) ≡ Some b
    → each_said says (map f (take (i + 1) xs)) ≡ Some (found ++ b ∷ [])
each_said_more f says xs i x b found inside is e here =
    rw (take_more xs i x inside, ← is, map-append) (each_said_push says (map f (take i xs)) (f x) b found e here)

cut_at : {X : Type 0} (xs : List X) (i : ℕ) (x : X) → i < length xs → x ≡ get_or xs i x → xs ≡ take i xs ++ x ∷ drop (suc i) xs
cut_at xs i x inside is = sym (take-append-drop i xs) ∙ ap (λ rest. take i xs ++ rest)
    (drop-cons xs i x inside ∙ ap (λ y. y ∷ drop (suc i) xs) (sym is))

pub first_place : {A : Type 0} (test : A → Bool) (xs : List A) (i : ℕ) → i < length xs → position_or_len test xs ≡ i → position test xs ≡ Some i
first_place test xs i inside at = rw (at, lt-ltb i (length xs) inside)

-- the first i members say something, and the next doesn't
pub silent_at : {X A B : Type 0} (f : X → A) (says : A → Option B) (xs : List X) (i : ℕ) (x : X) (found : List B)
    → i < length xs → x ≡ get_or xs i x → each_said says (map f (take i xs)) ≡ Some found → says (f x) ≡ None
    → (each_said says (map f xs) ≡ None) × (first_silent says (map f xs) ≡ Some i)
silent_at f says xs i x found inside is e here =
    let whole : map f xs ≡ map f (take i xs) ++ f x ∷ map f (drop (suc i) xs) = ap (map f) (cut_at xs i x inside is)
    ∙ map-append f (take i xs) (x ∷ drop (suc i) xs) in
    let none : each_said says (map f xs) ≡ None = ap (each_said says) whole ∙ each_said_none says (map f (take i xs))
    (map f (drop (suc i) xs)) (f x) here in
    let place : position_or_len (λ y. is_none (says y)) (map f xs) ≡ i =
    ap (position_or_len (λ y. is_none (says y))) whole
    ∙ silent_here says (map f (take i xs)) (map f (drop (suc i) xs)) (f x) found e here
    ∙ length-map (take i xs) f ∙ length-take-le i xs (omega arith) in
    (none, first_place (λ y. is_none (says y)) (map f xs) i (omega (arith, length-map xs f)) place)

joined_stays : {B : Type 0} (first : Option B) (rest longer : Option (List B)) → (rest ≡ None → longer ≡ None) → joined first rest ≡ None
    → joined first longer ≡ None
joined_stays None rest longer later e = refl
joined_stays (Some b) None longer later e = rw (later refl)
joined_stays (Some b) (Some bs) longer later e = absurd (none-some _ (sym e))

-- a list that says nothing says nothing with more members
pub each_said_none_before : {A B : Type 0} (says : A → Option B) (xs ys : List A) → each_said says xs ≡ None → each_said says (xs ++ ys) ≡ None
each_said_none_before says [] ys e = absurd (none-some _ (sym e))
each_said_none_before says (x ∷ xs) ys e =
    joined_stays (says x) (each_said says xs) (each_said says (xs ++ ys)) (λ none. each_said_none_before says xs ys none) e

joined_length : {B : Type 0} (first : Option B) (rest : Option (List B)) (found : List B) (n : ℕ) → joined first rest ≡ Some found
    → ((bs : List B) → rest ≡ Some bs → length bs ≡ n) → length found ≡ suc n
joined_length None rest found n e later = absurd (none-some _ e)
joined_length (Some b) None found n e later = absurd (none-some _ e)
joined_length (Some b) (Some bs) found n e later = ap length (sym (same_Some _ _ e)) ∙ ap suc (later bs refl)

-- as many are said as there are
pub each_said_length : {A B : Type 0} (says : A → Option B) (xs : List A) (found : List B) → each_said says xs ≡ Some found
    → length found ≡ length xs
each_said_length says [] found e = ap length (sym (same_Some _ _ e))
each_said_length says (x ∷ xs) found e =
    joined_length (says x) (each_said says xs) found (length xs) e (λ bs is. each_said_length says xs bs is)
