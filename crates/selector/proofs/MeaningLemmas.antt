-- No text is two selectors.
use Rattle.std.proofs.Common.{◌≡◌, ◌⊎◌, inl, inr, ℕ, ◌==◌, not, List, [], ◌∷◌, ◌++◌, refl, sym, ◌∙◌, subst}
use Rattle.selector.specs.Matching.{Matching}
use Rattle.selector.specs.Grammar.{is_space, IsSpace, IsMore, IsInside, IsKind}
use Rattle.selector.specs.Laws.{IsOneSelector, IsOneQuery}
use Rattle.selector.proofs.ByteLemmas.{clash}
use Rattle.selector.proofs.RunLemmas.{run_same}
use Rattle.selector.proofs.MatcherLemmas.{matcher_same}
use Rattle.selector.proofs.InsideLemmas.{matcher_no_close}
use Rattle.selector.proofs.SelectorLemmas.{brace_in}

both_ways : (m n : Matching) (a b : List Matching) → m ≡ n → a ≡ b → m ∷ a ≡ n ∷ b
both_ways m n a b one rest = λ i. one i ∷ rest i

no_comma_closes : (before rest first last : List ℕ) → IsSpace before → IsSpace first → before ++ 44 ∷ rest ≡ first ++ 125 ∷ last → ⊥
no_comma_closes before rest first last blank empty same =
    let parts = run_same is_space before first (44 ∷ rest) (125 ∷ last) same blank empty refl refl in clash 44 125 rest last parts.1 refl

after_comma : (before rest first last : List ℕ) → IsSpace before → IsSpace first → before ++ 44 ∷ rest ≡ first ++ 44 ∷ last → rest ≡ last
after_comma before rest first last blank empty same =
    let parts = run_same is_space before first (44 ∷ rest) (44 ∷ last) same blank empty refl refl in
    let next = parts.1 in
    let tail : rest ≡ last = cc in tail

-- the closing of a selector is no further matcher
ends_here : (text : List ℕ) (n : Matching) (b : List Matching) → IsMore text [] → IsMore text (n ∷ b) → ⊥
ends_here text n b (inl (before, after, is, blank, last)) (space, first, rest, it, empty, w, more) =
    no_comma_closes space (first ++ rest) before after empty blank (sym it ∙ is)
ends_here text n b (inr (before, tail, is, blank, (gap, after, close, sp, last))) (space, first, rest, it, empty, w, more) =
    let same = after_comma space (first ++ rest) before tail empty blank (sym it ∙ is) in
    matcher_no_close first rest gap after n w sp (same ∙ close)

more_same : (a b : List Matching) (text : List ℕ) → IsMore text a → IsMore text b → a ≡ b
more_same [] [] text one two = refl
more_same [] (n ∷ b) text one two = absurd (ends_here text n b one two)
more_same (m ∷ a) [] text one two = absurd (ends_here text m a two one)
more_same (m ∷ a) (n ∷ b) text (before, first, rest, is, blank, w, more) (space, front, tail, it, empty, v, after) =
    let same = after_comma before (first ++ rest) space (front ++ tail) blank empty (sym is ∙ it) in
    let parts = matcher_same first front rest tail m n w v same in
    both_ways m n a b parts.1 (more_same a b rest more (subst (λ t. IsMore t b) (sym parts.2) after))

inside_same : (a b : List Matching) (text : List ℕ) → IsInside text a → IsInside text b → a ≡ b
inside_same [] [] text one two = refl
inside_same [] (n ∷ b) text (before, after, is, blank, last) (first, rest, it, w, more) = absurd (matcher_no_close first rest before after n w blank (sym it ∙ is))
inside_same (m ∷ a) [] text (first, rest, it, w, more) (before, after, is, blank, last) = absurd (matcher_no_close first rest before after m w blank (sym it ∙ is))
inside_same (m ∷ a) (n ∷ b) text (first, rest, is, w, more) (front, tail, it, v, after) =
    let parts = matcher_same first front rest tail m n w v (sym is ∙ it) in
    both_ways m n a b parts.1 (more_same a b rest more (subst (λ t. IsMore t b) (sym parts.2) after))

not_empty : (a b : List ℕ) (x : ℕ) → a ++ x ∷ b ≡ [] → ⊥
not_empty [] b x same = cc
not_empty (y ∷ a) b x same = cc

pub one_selector : (text : List ℕ) → IsOneSelector text
one_selector text a b (inl (empty, none)) (inl (also, nothing)) = none ∙ sym nothing
one_selector text a b (inl (empty, none)) (inr (before, inside, is, blank, at)) = absurd (not_empty before inside 123 (sym is ∙ empty))
one_selector text a b (inr (before, inside, is, blank, at)) (inl (empty, none)) = absurd (not_empty before inside 123 (sym is ∙ empty))
one_selector text a b (inr (before, inside, is, blank, at)) (inr (space, other, it, bare, in_)) =
    let parts = run_same is_space before space (123 ∷ inside) (123 ∷ other) (sym is ∙ it) blank bare refl refl in
    let next = parts.1 in
    let tail : inside ≡ other = cc in
    inside_same a b inside at (subst (λ t. IsInside t b) (sym tail) in_)

one_query_by : (text kind other : List ℕ) (a b : List Matching) → IsKind kind → IsKind other
    → ((text ≡ kind) × (a ≡ [])) ⊎ ((inside : List ℕ) × (text ≡ kind ++ 123 ∷ inside) × IsInside inside a)
    → ((text ≡ other) × (b ≡ [])) ⊎ ((inside : List ℕ) × (text ≡ other ++ 123 ∷ inside) × IsInside inside b) → (kind ≡ other) × (a ≡ b)
one_query_by text kind other a b k o (inl (is, none)) (inl (it, nothing)) = (sym is ∙ it, none ∙ sym nothing)
one_query_by text kind other a b k o (inl (is, none)) (inr (inside, it, at)) = absurd (brace_in other inside (subst IsKind (sym is ∙ it) k))
one_query_by text kind other a b k o (inr (inside, is, at)) (inl (it, none)) = absurd (brace_in kind inside (subst IsKind (sym it ∙ is) o))
one_query_by text kind other a b k o (inr (inside, is, at)) (inr (tail, it, bare)) =
    let parts = run_same (λ b. not (b == 123)) kind other (123 ∷ inside) (123 ∷ tail) (sym is ∙ it) k o refl refl in
    let next = parts.1 in
    let rest : inside ≡ tail = cc in
    (parts.0, inside_same a b inside at (subst (λ t. IsInside t b) (sym rest) bare))

pub one_query : (text : List ℕ) → IsOneQuery text
one_query text kind other a b one two = one_query_by text kind other a b one.braceless two.braceless one.selected two.selected
