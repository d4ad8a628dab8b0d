-- A map from texts to names of the same bytes, as a reader keeps them.
use Rattle.std.proofs.Common.{◌≡◌, ◌⊎◌, inl, inr, ⊎_elim, ℕ, List, [], ◌∷◌, Bool, true, false, cond, Option, Some, None, Result, Ok, Err, Bor, refl, sym, ◌∙◌}
use Rattle.std.specs.List.{All}
use Rattle.std.specs.Map.{lookup}
use Rattle.std.specs.BTreeMap.{insert_entry}
use Rattle.std.specs.Result.{OnOk, OnErr}
use Rattle.std.specs.Ordering.{nat_cmp, is_eq, match_ordering}
use Rattle.std.specs.declared.cmp.Ordering.{Ordering}
use Rattle.std.specs.declared.cmp.Ordering.TheVariants.{Less, Equal, Greater}
use Rattle.std.specs.Cmp.Lexicographic.{slice_cmp}
use Rattle.std.proofs.lemmas.List.Elements.{All-cons, All-head, All-tail}
use Rattle.std.proofs.lemmas.Map.Text.{is_eq-slice_cmp}
use Rattle.std.proofs.lemmas.Slice.Eq.{bytes_eq-Decides}

-- each name has the bytes of its key
abbrev pub AreSame : List (Bor (List ℕ) × List ℕ) → Type 0
AreSame entries = All (λ entry. entry.1 ≡ entry.0.now) entries

abbrev pub text_cmp : Bor (List ℕ) → Bor (List ℕ) → Ordering
text_cmp x y = slice_cmp nat_cmp x.now y.now

same_from_cmp : (q k : List ℕ) → is_eq (slice_cmp nat_cmp q k) ≡ true → q ≡ k
same_from_cmp q k h = (bytes_eq-Decides q k).0 (sym (is_eq-slice_cmp q k) ∙ h)

found : (b : Bool) (name sought : List ℕ) (rest : Option (List ℕ)) → cond b (Some name) rest ≡ Some sought
    → ((b ≡ true) × (name ≡ sought)) ⊎ (rest ≡ Some sought)
found true name sought rest h = inl (refl, cc)
found false name sought rest h = inr h

pub lookup-AreSame : (q : List ℕ) (entries : List (Bor (List ℕ) × List ℕ)) (name : List ℕ) → AreSame entries
    → lookup (λ k. is_eq (slice_cmp nat_cmp q k.now)) entries ≡ Some name → name ≡ q
lookup-AreSame q [] name same h = absurd (let e : None ≡ Some name = h in cc)
lookup-AreSame q (e ∷ es) name same h =
    ⊎_elim
    (λ here. sym here.1 ∙ All-head (λ entry. entry.1 ≡ entry.0.now) e es same ∙ sym (same_from_cmp q e.0.now here.0))
    (λ later. lookup-AreSame q es name (All-tail (λ entry. entry.1 ≡ entry.0.now) e es same) later)
    (found (is_eq (slice_cmp nat_cmp q e.0.now)) e.1 name (lookup (λ k. is_eq (slice_cmp nat_cmp q k.now)) es) h)

put : (k : Bor (List ℕ)) (name : List ℕ) (e : Bor (List ℕ) × List ℕ) (es more : List (Bor (List ℕ) × List ℕ)) (o : Ordering) → o ≡ text_cmp k e.0
    → name ≡ k.now → AreSame (e ∷ es) → AreSame more → AreSame (match_ordering o ((k, name) ∷ e ∷ es) ((e.0, name) ∷ es) (e ∷ more))
put k name e es more Less is named same grown = All-cons (λ entry. entry.1 ≡ entry.0.now) (k, name) (e ∷ es) named same
put k name e es more Equal is named same grown =
    All-cons (λ entry. entry.1 ≡ entry.0.now) (e.0, name) es (named ∙ same_from_cmp k.now e.0.now (rw (← is) refl))
    (All-tail (λ entry. entry.1 ≡ entry.0.now) e es same)
put k name e es more Greater is named same grown =
    All-cons (λ entry. entry.1 ≡ entry.0.now) e more (All-head (λ entry. entry.1 ≡ entry.0.now) e es same) grown

pub insert-AreSame : (k : Bor (List ℕ)) (name : List ℕ) (entries : List (Bor (List ℕ) × List ℕ)) → name ≡ k.now → AreSame entries
    → AreSame (insert_entry text_cmp entries k name)
insert-AreSame k name [] named same = All-cons (λ entry. entry.1 ≡ entry.0.now) (k, name) [] named same
insert-AreSame k name (e ∷ es) named same =
    put k name e es (insert_entry text_cmp es k name) (text_cmp k e.0) refl named same
    (insert-AreSame k name es named (All-tail (λ entry. entry.1 ≡ entry.0.now) e es same))

-- an insertion that may fail
pub inserted : {R E : Type 0} (r : Result R E) (k : Bor (List ℕ)) (name : List ℕ) (old new : List (Bor (List ℕ) × List ℕ)) → name ≡ k.now → AreSame old
    → OnOk r (new ≡ insert_entry text_cmp old k name) → OnErr r (new ≡ old) → AreSame new
inserted (Ok x) k name old new named same ok err = rw ok (insert-AreSame k name old named same)
inserted (Err e) k name old new named same ok err = rw err same
