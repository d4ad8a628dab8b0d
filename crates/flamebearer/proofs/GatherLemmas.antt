-- Lists that are gathered item by item.
use Rattle.std.proofs.Common.{◌≡◌, ℕ, ◌+◌, ◌<◌, ◌≤◌, List, [], ◌∷◌, ◌++◌, length, map, take, get_or, sym, ap, ◌∙◌, append-nil}
use Rattle.std.specs.Prelude.{nat_eq}
use Rattle.std.specs.List.{flat_map}
use Rattle.std.specs.Cmp.Lexicographic.{pointwise}
use Rattle.std.proofs.lemmas.List.{get_or-map, map_more, take_all, take_more}
use Rattle.std.proofs.lemmas.List.Concat.{flat_map-cons}
use Rattle.std.proofs.lemmas.List.Sums.{fold-append}
use Rattle.std.proofs.lemmas.Grind.{flat_map-append}
use Rattle.flamebearer.specs.Names.{with_name, with_names}
use Rattle.flamebearer.specs.Trees.{firsts}

-- what stands at an index, by a view of each
pub read-view : {X Y : Type 0} (view : X → Y) (xs : List X) (i : ℕ) (x : X) (e : Y) → i < length xs → x ≡ get_or xs i x → view x ≡ get_or (map view xs) i e
read-view view xs i x e within is = ap view is ∙ sym (get_or-map view xs i x e within)

pub map-grow : {X Y : Type 0} (f : X → Y) (xs : List X) (i : ℕ) (d : X) (before after : List Y) (y : Y) → i < length xs → before ≡ map f (take i xs) → y ≡ f (get_or xs i d)
    → after ≡ before ++ y ∷ [] → after ≡ map f (take (i + 1) xs)
map-grow f xs i d before after y within so value new = new ∙ (λ k. so k ++ value k ∷ []) ∙ sym (map_more f xs i d within)

pub map-end : {X Y : Type 0} (f : X → Y) (xs : List X) (i : ℕ) (row : List Y) → length xs ≤ i → row ≡ map f (take i xs) → row ≡ map f xs
map-end f xs i row done so = so ∙ ap (map f) (take_all i xs done)

pub flat-more : {X Y : Type 0} (f : X → List Y) (xs : List X) (i : ℕ) (d : X) → i < length xs → flat_map f (take (i + 1) xs) ≡ flat_map f (take i xs) ++ f (get_or xs i d)
flat-more f xs i d within = ap (flat_map f) (take_more xs i d within) ∙ flat_map-append f (take i xs) (get_or xs i d ∷ [])
    ∙ ap (λ t. flat_map f (take i xs) ++ t) (flat_map-cons f (get_or xs i d) [] ∙ append-nil (f (get_or xs i d)))

pub names-grow : {X : Type 0} (f : X → List ℕ) (levels : List (List X)) (i : ℕ) (before after : List (List ℕ)) (level : List X) → i < length levels
    → before ≡ with_names [] (flat_map (map f) (take i levels)) → level ≡ get_or levels i [] → after ≡ with_names before (map f level) → after ≡ with_names [] (flat_map (map f) (take (i + 1) levels))
names-grow f levels i before after level within so is new =
    new ∙ (λ k. with_names (so k) (map f (is k))) ∙ sym (fold-append with_name [] (flat_map (map f) (take i levels)) (map f (get_or levels i [])))
    ∙ ap (with_names []) (sym (flat-more (map f) levels i [] within))

pub names-end : {X : Type 0} (f : X → List ℕ) (levels : List (List X)) (i : ℕ) (names : List (List ℕ)) → length levels ≤ i
    → names ≡ with_names [] (flat_map (map f) (take i levels)) → names ≡ firsts (pointwise nat_eq) (flat_map (map f) levels)
unfolding firsts
names-end f levels i names done so = so ∙ ap (λ l. with_names [] (flat_map (map f) l)) (take_all i levels done)
