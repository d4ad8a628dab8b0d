-- Lists that are written one item after another.
use Rattle.std.proofs.Common.{◌≡◌, ℕ, ◌+◌, ◌<◌, ◌≤◌, List, [], ◌∷◌, ◌++◌, length, drop, get_or, map, subst, sym, ap, ◌∙◌}
use Rattle.std.specs.Prelude.{Result, Ok, Err}
use Rattle.std.specs.Int.{bytes_high_first}
use Rattle.std.specs.List.{All, flat_map}
use Rattle.std.specs.Result.{OnOk}
use Rattle.std.proofs.lemmas.List.{append_assoc, drop_all, drop_more}
use Rattle.std.proofs.lemmas.List.Elements.{All-cons, All-nil}

-- the item that stands there, and what is behind it
pub here : {X : Type 0} (xs : List X) (i : ℕ) (x : X) → i < length xs → x ≡ get_or xs i x → drop i xs ≡ x ∷ drop (i + 1) xs
here xs i x within is = drop_more xs i x within ∙ ap (λ y. y ∷ drop (i + 1) xs) (sym is)

-- what is written, with what is left behind it, is the whole: so it stays with one more item
pub written_first : {X : Type 0} (f : X → List ℕ) (left rest : List X) (x : X) (out new whole : List ℕ)
    → left ≡ x ∷ rest → out ++ flat_map f left ≡ whole → new ≡ out ++ f x → new ++ flat_map f rest ≡ whole
written_first f left rest x out new whole is so_far one =
    ap (λ l. l ++ flat_map f rest) one ∙ append_assoc out (f x) (flat_map f rest) ∙ sym (ap (λ l. out ++ flat_map f l) is) ∙ so_far

pub written_next : {X : Type 0} (f : X → List ℕ) (xs : List X) (i : ℕ) (x : X) (out new whole : List ℕ) → i < length xs → x ≡ get_or xs i x
    → out ++ flat_map f (drop i xs) ≡ whole → new ≡ out ++ f x → new ++ flat_map f (drop (i + 1) xs) ≡ whole
written_next f xs i x out new whole within is so_far one = written_first f (drop i xs) (drop (i + 1) xs) x out new whole (here xs i x within is) so_far one

-- of all, where it is of those left: so it is of all where it is of those left behind one more
pub seen_first : {X Y : Type 0} (P : Y → Type 0) (f : X → Y) (left rest : List X) (x : X) (Whole : Type 0)
    → left ≡ x ∷ rest → P (f x) → (All P (map f left) → Whole) → All P (map f rest) → Whole
seen_first P f left rest x Whole is one so_far others =
    so_far (subst (λ l. All P (map f l)) (sym is) (All-cons P (f x) (map f rest) one others))

pub seen_next : {X Y : Type 0} (P : Y → Type 0) (f : X → Y) (xs : List X) (i : ℕ) (x : X) → i < length xs → x ≡ get_or xs i x → P (f x)
    → (All P (map f (drop i xs)) → All P (map f xs)) → All P (map f (drop (i + 1) xs)) → All P (map f xs)
seen_next P f xs i x within is one so_far = seen_first P f (drop i xs) (drop (i + 1) xs) x (All P (map f xs)) (here xs i x within is) one so_far

pub seen_all : {X Y : Type 0} (P : Y → Type 0) (f : X → Y) (xs : List X) (i : ℕ) → length xs ≤ i → (All P (map f (drop i xs)) → All P (map f xs)) → All P (map f xs)
seen_all P f xs i end so_far = so_far (subst (λ l. All P (map f l)) (sym (drop_all i xs end)) (All-nil P))

-- the same of the items themselves
pub known_next : {X : Type 0} (P : X → Type 0) (xs : List X) (i : ℕ) (x : X) → i < length xs → x ≡ get_or xs i x → P x
    → (All P (drop i xs) → All P xs) → All P (drop (i + 1) xs) → All P xs
known_next P xs i x within is one so_far others =
    so_far (subst (All P) (sym (here xs i x within is)) (All-cons P x (drop (i + 1) xs) one others))

pub known_all : {X : Type 0} (P : X → Type 0) (xs : List X) (i : ℕ) → length xs ≤ i → (All P (drop i xs) → All P xs) → All P xs
known_all P xs i end so_far = so_far (subst (All P) (sym (drop_all i xs end)) (All-nil P))

-- the count is written, and all items are left
pub none_written : {X : Type 0} (f : X → List ℕ) (left xs : List X) (count : ℕ) (out new : List ℕ) → left ≡ xs → count ≡ length xs → new ≡ out ++ bytes_high_first 4 count
    → new ++ flat_map f left ≡ out ++ (bytes_high_first 4 (length xs) ++ flat_map f xs)
none_written f left xs count out new is counted one =
    ap (λ l. l ++ flat_map f left) one ∙ append_assoc out (bytes_high_first 4 count) (flat_map f left)
    ∙ ap (λ l. out ++ (bytes_high_first 4 count ++ flat_map f l)) is ∙ ap (λ n. out ++ (bytes_high_first 4 n ++ flat_map f xs)) counted

-- what holds whatever the result
pub always : {E P : Type 0} (result : Result (Unit {0}) E) → P → OnOk result P
always (Ok u) p = p
always (Err e) p = tt

pub all_five : {X : Type 0} (P : X → Type 0) (a b c d e : X) → P a → P b → P c → P d → P e → All P (a ∷ b ∷ c ∷ d ∷ e ∷ [])
all_five P a b c d e p q r s t =
    All-cons P a (b ∷ c ∷ d ∷ e ∷ []) p (All-cons P b (c ∷ d ∷ e ∷ []) q (All-cons P c (d ∷ e ∷ []) r (All-cons P d (e ∷ []) s (All-cons P e [] t (All-nil P)))))
