-- The order of label sets, as lists of pairs: name bytes, then value bytes. It is total, and agrees with equality.
use Rattle.std.specs.Prelude.{◌≡◌, ◌&&◌, Bool, List, nat_eq, Some}
use Rattle.std.specs.Ordering.{eq_by_cmp, ordering_then}
use Rattle.std.specs.declared.cmp.Ordering.{Ordering}
use Rattle.std.specs.Cmp.{IsTotalOrder, IsEquivalence, IsPartialOrder, and_equiv, both_tied, on_equiv, on_total, po, then_total}
use Rattle.std.specs.Cmp.Lexicographic.{pointwise, slice_cmp, lists_equiv, lists_total, lists_ties, nat_list_eq_equiv, nat_list_cmp_total, texts_ties}
use Rattle.profile_model.specs.LabelSets.{Label}
use Rattle.profile_model.specs.Stacks.{name_cmp}

-- by name, then by value
abbrev pub label_cmp : Label → Label → Ordering
label_cmp x y = ordering_then (name_cmp x.0 y.0) (name_cmp x.1 y.1)

-- pair by pair, a proper prefix first
abbrev pub labels_cmp : List Label → List Label → Ordering
labels_cmp = slice_cmp label_cmp

abbrev pub label_eq : Label → Label → Bool
label_eq x y = pointwise nat_eq x.0 y.0 && pointwise nat_eq x.1 y.1

abbrev pub labels_eq : List Label → List Label → Bool
labels_eq = pointwise label_eq

pub labels_equiv : IsEquivalence labels_eq
labels_equiv = lists_equiv (and_equiv (on_equiv (λ (x : Label). x.0) nat_list_eq_equiv) (on_equiv (λ (x : Label). x.1) nat_list_eq_equiv))

pub labels_total : IsTotalOrder labels_cmp
labels_total = lists_total (then_total (on_total (λ (x : Label). x.0) nat_list_cmp_total) (on_total (λ (x : Label). x.1) nat_list_cmp_total))

pub labels_ties : (xs ys : List Label) → labels_eq xs ys ≡ eq_by_cmp labels_cmp xs ys
labels_ties = lists_ties label_cmp (λ x y. both_tied _ _ (name_cmp x.0 y.0) (name_cmp x.1 y.1) (texts_ties x.0 y.0) (texts_ties x.1 y.1))

pub labels_po : IsPartialOrder labels_eq (λ xs ys. Some (labels_cmp xs ys))
labels_po = po labels_total labels_ties
