-- The frames of stacks, in ascending order.
use Rattle.std.proofs.Common.{◌≡◌, ℕ, ◌||◌, List, [], ◌∷◌, fold, Bool, true, false, Ordering, Less, Equal, Greater, refl, sym, ap, ◌∙◌, subst}
use Rattle.std.specs.Prelude.{nat_eq, IsTrue}
use Rattle.std.specs.BTreeSet.{insert_key}
use Rattle.std.specs.List.{All, flat_map}
use Rattle.std.specs.Ordering.{is_eq, match_ordering}
use Rattle.std.specs.Cmp.Lexicographic.{bytes_decides, pointwise, texts_ties}
use Rattle.std.proofs.lemmas.List.Elements.{All-cons, All-nil, All-weaker}
use Rattle.std.proofs.lemmas.List.Sums.{fold-append}
use Rattle.profile_model.specs.Stacks.{name_cmp}
use Rattle.profile_model.specs.Sums.{Sample}
use Rattle.pprof_writer.specs.Tables.{frames_in, is_among}

or-left : (a b : Bool) → a ≡ true → (a || b) ≡ true
or-left true b h = refl
or-left false b h = absurd (let wrong : false ≡ true = h in cc)

or-right : (a b : Bool) → b ≡ true → (a || b) ≡ true
or-right true b h = refl
or-right false b h = h

or-cases : (a b c : Bool) → (b ≡ true → c ≡ true) → (a || b) ≡ true → (a || c) ≡ true
or-cases true b c later h = refl
or-cases false b c later h = later h

put-kept : (r : Ordering) (k y q : List ℕ) (ys more : List (List ℕ)) → (is_among ys q ≡ true → is_among more q ≡ true)
    → is_among (y ∷ ys) q ≡ true → is_among (match_ordering r (k ∷ y ∷ ys) (y ∷ ys) (y ∷ more)) q ≡ true
put-kept Less k y q ys more later h = or-right (pointwise nat_eq q k) _ h
put-kept Equal k y q ys more later h = h
put-kept Greater k y q ys more later h = or-cases (pointwise nat_eq q y) _ _ later h

-- what was there stays
pub insert-kept : (k q : List ℕ) (xs : List (List ℕ)) → is_among xs q ≡ true → is_among (insert_key name_cmp xs k) q ≡ true
insert-kept k q [] h = absurd (let wrong : false ≡ true = h in cc)
insert-kept k q (y ∷ ys) h = put-kept (name_cmp k y) k y q ys (insert_key name_cmp ys k) (insert-kept k q ys) h

put-own : (r : Ordering) (k y : List ℕ) (ys more : List (List ℕ)) → name_cmp k y ≡ r → is_among more k ≡ true
    → is_among (match_ordering r (k ∷ y ∷ ys) (y ∷ ys) (y ∷ more)) k ≡ true
put-own Less k y ys more is later = or-left (pointwise nat_eq k k) _ ((bytes_decides k k).1 refl)
put-own Equal k y ys more is later = or-left (pointwise nat_eq k y) _ (texts_ties k y ∙ ap is_eq is)
put-own Greater k y ys more is later = or-right (pointwise nat_eq k y) _ later

pub insert-own : (k : List ℕ) (xs : List (List ℕ)) → is_among (insert_key name_cmp xs k) k ≡ true
insert-own k [] = or-left (pointwise nat_eq k k) false ((bytes_decides k k).1 refl)
insert-own k (y ∷ ys) = put-own (name_cmp k y) k y ys (insert_key name_cmp ys k) refl (insert-own k ys)

fold-kept : (q : List ℕ) (xs ys : List (List ℕ)) → is_among xs q ≡ true → is_among (fold (insert_key name_cmp) xs ys) q ≡ true
fold-kept q xs [] h = h
fold-kept q xs (y ∷ ys) h = fold-kept q (insert_key name_cmp xs y) ys (insert-kept y q xs h)

abbrev pub AreAmong : List (List ℕ) → List (List ℕ) → Type 0
AreAmong frames ys = All (λ frame. IsTrue (is_among frames frame)) ys

fold-own : (xs ys : List (List ℕ)) → AreAmong (fold (insert_key name_cmp) xs ys) ys
fold-own xs [] = All-nil (λ frame. IsTrue (is_among xs frame))
fold-own xs (y ∷ ys) =
    All-cons (λ frame. IsTrue (is_among (fold (insert_key name_cmp) (insert_key name_cmp xs y) ys) frame)) y ys (fold-kept y (insert_key name_cmp xs y) ys (insert-own y xs)) (fold-own (insert_key name_cmp xs y) ys)

abbrev pub AllAmong : List (List ℕ) → List Sample → Type 0
AllAmong frames sums = All (λ sample. AreAmong frames sample.0) sums

all-among : (found : List (List ℕ)) (sums : List Sample)
    → AllAmong (fold (insert_key name_cmp) found (flat_map (λ sample. sample.0) sums)) sums
all-among found [] = All-nil _
all-among found (sample ∷ sums) =
    let done = fold (insert_key name_cmp) found sample.0 in
    let is = fold-append (insert_key name_cmp) found sample.0 (flat_map (λ s. s.0) sums) in
    subst (λ frames. AllAmong frames (sample ∷ sums)) (sym is)
    (All-cons (λ s. AreAmong (fold (insert_key name_cmp) done (flat_map (λ s. s.0) sums)) s.0) sample sums
    (All-weaker (λ frame. IsTrue (is_among done frame)) (λ frame. IsTrue (is_among (fold (insert_key name_cmp) done (flat_map (λ s. s.0) sums)) frame)) (λ frame h. fold-kept frame done (flat_map (λ s. s.0) sums) h) sample.0 (fold-own found sample.0))
    (all-among done sums))

-- each frame of a stack is one of the frames
pub frames-among : (sums : List Sample) → AllAmong (frames_in sums) sums
frames-among sums = all-among [] sums
