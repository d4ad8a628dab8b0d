-- What came while a head was taken.
use Rattle.std.proofs.Common.{◌≡◌, ℕ, ◌-◌, ◌<◌, ◌≤◌, min, take, drop, arith, ⊎_elim, List, [], ◌∷◌, ◌++◌, length, refl, sym, subst, ap, ◌∙◌, append_assoc, append-nil, Ok, Err, inl}
use Rattle.std.proofs.lemmas.Bool.{cases_lt}
use Rattle.std.proofs.lemmas.List.{take-append-drop, nil_from_length, drop_all, take_all}
use Rattle.link_trait.specs.Link.{Told}
use Rattle.http_session.specs.Pulled.{Pulled, FillStep}
use Rattle.http_session.specs.Heads.{IsUnfinished}
use Rattle.http_session.specs.Steps.{StopsAt, HeadStep}
use Rattle.link_trait.specs.declared.link.Failed.{Failed}
use Rattle.http_session.specs.Takes.{IsPartial}
use Rattle.http_session.specs.declared.reader.Stop.{Stop}
use Rattle.http_session.specs.declared.reader.Stop.TheVariants as stop
use Rattle.link_trait.proofs.GoesLemmas.{took_then}

pub pulled_then : (x y z : List ℕ) (a b c : Told) → Pulled x y a b → Pulled y z b c → Pulled x z a c
pulled_then x y z a b c one two =
    (one.0 ++ two.0, took_then one.0 two.0 a b c one.1 two.1, two.2 ∙ ap (λ (xs : List ℕ). xs ++ two.0) one.2 ∙ append_assoc x one.0 two.0)

-- nothing has no parts
pub no_parts : (p q : List ℕ) → [] ≡ p ++ q → (p ≡ []) × (q ≡ [])
no_parts [] q is = (refl, sym is)
no_parts (x ∷ p) q is = absurd (cc)

-- a fill that took nothing leaves what was held, and nothing is to come
pub took_none : (held new : List ℕ) (before now : Told) → FillStep (Ok 0) held new before now → (new ≡ held) × (now.to_come ≡ [])
took_none held new before now step =
    let parts = no_parts step.0.0 now.to_come (sym (step.1.0 refl) ∙ step.0.1.to_come) in
    (step.0.2 ∙ ap (λ (xs : List ℕ). held ++ xs) parts.0 ∙ append-nil held, parts.1)

-- the input ended before a whole head
pub stopped : (T : Type 0) (old held new : List ℕ) (stop : Stop) (a b c : Told) → IsUnfinished held →
    ((now : Told) → IsUnfinished new → now.to_come ≡ [] → StopsAt new now stop) →
    Pulled old held a b → FillStep (Ok 0) held new b c → HeadStep {T = T} (Err stop) old new a c
stopped T old held new stop a b c open_ stops pulled fill =
    let none = took_none held new b c fill in
    (pulled_then old held new a b c pulled fill.0, stops c (subst IsUnfinished (sym none.0) open_) none.1)

-- the link failed before a whole head
pub failed : (T : Type 0) (old held new : List ℕ) (count : ℕ) (e : Failed) (a b c : Told) → IsUnfinished held → new ≡ held →
    Pulled old held a b → FillStep (Err e) held new b c → HeadStep {T = T} (Err (stop.LinkFault count)) old new a c
failed T old held new count e a b c open_ same pulled stays =
    let P : Told → Type 0 = λ t. Pulled old held a t in
    let Q : List ℕ → Type 0 = λ xs. Pulled old xs a c × IsPartial xs in
    subst Q (sym same) (subst P (sym stays) pulled, inl open_)

-- a body of which some bytes were held and the rest came
pub body_came : (old rest piece : List ℕ) (count size : ℕ) → count ≡ min size (length old) → length rest ≡ size - count → piece ≡ rest →
    old ++ piece ≡ (take count old ++ rest) ++ drop count old
body_came old rest piece count size is long came =
    let front = take-append-drop count old in
    ⊎_elim
    (λ (enough : size < length old). let none : rest ≡ [] = nil_from_length rest (omega arith) in
    ap (λ (xs : List ℕ). old ++ xs) (came ∙ none) ∙ append-nil old ∙ sym front
    ∙ ap (λ (xs : List ℕ). xs ++ drop count old) (sym (append-nil (take count old)) ∙ ap (λ (xs : List ℕ). take count old ++ xs) (sym none)))
    (λ (all : length old ≤ size). let none : drop count old ≡ [] = drop_all count old (omega arith) in
    let whole : take count old ≡ old = take_all count old (omega arith) in
    ap (λ (xs : List ℕ). old ++ xs) came ∙ sym (append-nil (old ++ rest))
    ∙ ap (λ (xs : List ℕ). (xs ++ rest) ++ []) (sym whole) ∙ ap (λ (xs : List ℕ). (take count old ++ rest) ++ xs) (sym none))
    (cases_lt size (length old))
