-- Steps of a link, one after another.
use Rattle.std.proofs.Common.{ℕ, List, [], ◌++◌, refl, sym, ap, ◌∙◌, append_assoc, append-nil, Option}
use Rattle.link_trait.specs.Link.{Told, Goes, Took, Gave}

-- two steps are one
pub goes_then : (P Q R : Told → Told → Type 0) (x y z : Option Told) → ((a b c : Told) → P a b → Q b c → R a c) → Goes P x y → Goes Q y z → Goes R x z
goes_then P Q R x y z both first second = record {
  told = λ before is.
      let one = first.told before is in
      let two = second.told one.0 one.1 in
      (two.0, two.1, both before one.0 two.0 one.2 two.2);
  silent = λ none. second.silent (first.silent none);
}

-- a step that says more
pub goes_weaker : (P R : Told → Told → Type 0) (x y : Option Told) → ((a b : Told) → P a b → R a b) → Goes P x y → Goes R x y
goes_weaker P R x y more step = record {
  told = λ before is. let one = step.told before is in (one.0, one.1, more before one.0 one.2);
  silent = step.silent;
}

-- no step
pub goes_nowhere : (R : Told → Told → Type 0) (x : Option Told) → ((a : Told) → R a a) → Goes R x x
goes_nowhere R x same = record { told = λ before is. (before, is, same before); silent = λ none. none }

pub gave_nothing : (a : Told) → Gave [] a a
gave_nothing a = record { given = sym (append-nil a.given); taken = refl; to_come = refl; moment = refl }

pub gave_then : (p q : List ℕ) (a b c : Told) → Gave p a b → Gave q b c → Gave (p ++ q) a c
gave_then p q a b c one two = record {
  given = two.given ∙ ap (λ (xs : List ℕ). xs ++ q) one.given ∙ append_assoc a.given p q;
  taken = two.taken ∙ one.taken;
  to_come = two.to_come ∙ one.to_come;
  moment = two.moment ∙ one.moment;
}

pub took_nothing : (a : Told) → Took [] a a
took_nothing a = record { taken = sym (append-nil a.taken); to_come = refl; given = refl; moment = refl }

pub took_then : (p q : List ℕ) (a b c : Told) → Took p a b → Took q b c → Took (p ++ q) a c
took_then p q a b c one two = record {
  taken = two.taken ∙ ap (λ (xs : List ℕ). xs ++ q) one.taken ∙ append_assoc a.taken p q;
  to_come = one.to_come ∙ ap (λ (xs : List ℕ). p ++ xs) two.to_come ∙ sym (append_assoc p q c.to_come);
  given = two.given ∙ one.given;
  moment = two.moment ∙ one.moment;
}
