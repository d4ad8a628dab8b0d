-- The order of stacks is total, and agrees with their equality.
use Rattle.std.specs.Prelude.{◌≡◌, ℕ, Bool, List, nat_eq, Some}
use Rattle.std.proofs.Common.{refl, subst}
use Rattle.std.specs.Ordering.{eq_by_cmp}
use Rattle.std.specs.Cmp.{IsTotalOrder, IsEquivalence, IsPartialOrder, Agrees}
use Rattle.std.specs.Cmp.Lexicographic.{pointwise, slice_cmp, slice_partial_cmp, lists_equiv, lists_total, lists_ties, lists_po, lists_agrees, nat_list_eq_equiv, nat_list_cmp_total, texts_ties, texts_po}
use Rattle.profile_model.specs.Stacks.{name_cmp, stack_cmp}

-- frame by frame
abbrev pub stack_eq : List (List ℕ) → List (List ℕ) → Bool
stack_eq = pointwise (pointwise nat_eq)

pub stacks_equiv : IsEquivalence stack_eq
stacks_equiv = lists_equiv nat_list_eq_equiv

pub stacks_total : IsTotalOrder stack_cmp
stacks_total = lists_total nat_list_cmp_total

pub stacks_ties : (xs ys : List (List ℕ)) → stack_eq xs ys ≡ eq_by_cmp stack_cmp xs ys
stacks_ties = lists_ties name_cmp texts_ties

pub stacks_po : IsPartialOrder stack_eq (λ xs ys. Some (stack_cmp xs ys))
stacks_po =
    let o = lists_po texts_po in
    let a : Agrees (slice_partial_cmp (λ x y. Some (name_cmp x y))) (slice_cmp name_cmp) = lists_agrees (λ x y. refl) in
    subst (IsPartialOrder stack_eq) (λ i xs ys. a xs ys i) o
