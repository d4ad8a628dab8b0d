-- Matchers that hold, one after another.
use Rattle.std.proofs.Common.{◌≡◌, ◌<◌, ◌+◌, ℕ, Bool, List, ◌∷◌, ◌&&◌, length, map, drop, get_or, sym, ap, subst, ◌∙◌}
use Rattle.std.specs.List.{list_all}
use Rattle.std.proofs.lemmas.List.{drop_more, length-map}
use Rattle.std.proofs.Math.ListN.{get_or-map}
use Rattle.selector.specs.Matching.{Matching}

-- of values that stand for as many matchers as these first, the next
pub next_is : {X : Type 0} (f : X → Matching) (first now : List X) (i : ℕ) (d : X) → map f now ≡ map f first → i < length first
    → drop i (map f first) ≡ f (get_or now i d) ∷ drop (i + 1) (map f first)
next_is f first now i d same inside =
    drop_more (map f first) i (f d) (subst (λ n. i < n) (sym (length-map first f)) inside)
    ∙ ap (λ m. m ∷ drop (i + 1) (map f first)) (ap (λ xs. get_or xs i (f d)) (sym same) ∙ get_or-map f now i d)

-- what it says counts, where those before it hold
pub held_at : (P : Matching → Bool) (all left rest : List Matching) (m : Matching) (says : Bool) → left ≡ m ∷ rest → P m ≡ says
    → list_all P left ≡ list_all P all → (says && list_all P rest) ≡ list_all P all
held_at P all left rest m says taken is sofar = sym (ap (λ b. b && list_all P rest) is) ∙ sym (ap (list_all P) taken) ∙ sofar
