-- What rows come to is told once: two spans, two lists of series, and two types with one text are the same.
use Rattle.std.proofs.Common.{◌≡◌, ◌∙◌, ◌≤◌, ℕ, Bool, true, false, cond, List, [], ◌∷◌, length, arith, Option, Some, None, Ordering, Less, Equal, refl, sym, ap}
use Rattle.std.specs.Prelude.{◌&&◌, IfSome}
use Rattle.std.specs.BTreeMap.{is_at}
use Rattle.std.specs.Cmp.{IsTotalOrder, nat_cmp_total, tied_itself, unsigned_Decides, unsigned_ties}
use Rattle.std.specs.FinMap.Entries.{below_all, find, is_sorted, same_entries}
use Rattle.std.specs.List.{AllByRecursion}
use Rattle.std.specs.List.Sorted.{IsStrictlySortedBy}
use Rattle.std.specs.Map.{keys_of, lookup}
use Rattle.std.specs.Ordering.{is_eq, nat_cmp}
use Rattle.std.proofs.Math.Dec.{T}
use Rattle.std.proofs.lemmas.List.Elements.{All-contains}
use Rattle.std.proofs.lemmas.Map.Views.{IfSome-lookup_from_All}
use Rattle.profile_model.specs.LabelOrder.{labels_cmp, labels_total}
use Rattle.profile_model.specs.declared.profile.Profile.{Profile}
use Rattle.query_merge.specs.Laws.{OneSeries, OneSpan}
use Rattle.query_merge.specs.Plotted.{ArePoints, value_in}
use Rattle.query_merge.specs.Rows.{times_of}
use Rattle.query_merge.specs.Spans.{AreEnds}
use Rattle.query_merge.proofs.OrderLemmas.{same_labels}

-- ---- spans

no_time : (profiles : List Profile) (ends : ℕ × ℕ) → profiles ≡ [] → AreEnds (times_of profiles) ends → ⊥
no_time profiles ends none are =
    let within = are.oldest.1 in
    let short : length (times_of profiles) ≡ 0 = ap (λ (ps : List Profile). length (times_of ps)) none in
    absurd (omega arith)

pub one_span : OneSpan
one_span profiles None None are too = refl
one_span profiles None (Some ends) are too = absurd (no_time profiles ends are too)
one_span profiles (Some ends) None are too = absurd (no_time profiles ends too are)
one_span profiles (Some one) (Some other) are too =
    let low = All-contains (λ time. one.0 ≤ time) (times_of profiles) other.0 are.none_before too.oldest in
    let as_low = All-contains (λ time. other.0 ≤ time) (times_of profiles) one.0 too.none_before are.oldest in
    let high = All-contains (λ time. time ≤ one.1) (times_of profiles) other.1 are.none_after too.newest in
    let as_high = All-contains (λ time. time ≤ other.1) (times_of profiles) one.1 too.none_after are.newest in
    let first : one.0 ≡ other.0 = omega arith in
    let last : one.1 ≡ other.1 = omega arith in
    λ i. Some (first i, last i)

-- ---- entries in the order of their keys

both_hold : (a b : Bool) → T a → T b → T (a && b)
both_hold true b p q = q
both_hold false b p q = p

module _ {K X : Type 0} (cmp : K → K → Ordering) where
  below : (k : K) (es : List (K × X)) → AllByRecursion (λ z. cmp k z ≡ Less) (keys_of es) → T (below_all cmp k es)
  below k [] all = tt
  below k (e ∷ es) all = rw all.0 (below k es all.1)

  rising : (es : List (K × X)) → IsStrictlySortedBy cmp (keys_of es) → T (is_sorted cmp es)
  unfolding IsStrictlySortedBy
  rising [] sorted = tt
  rising (e ∷ es) sorted = both_hold (below_all cmp e.0 es) (is_sorted cmp es) (below e.0 es sorted.0) (rising es sorted.1)

  looked : (q : K) (es : List (K × X)) → find cmp q es ≡ lookup (is_at (cmp q)) es
  looked q [] = refl
  looked q (e ∷ es) = ap (cond (is_eq (cmp q e.0)) (Some e.1)) (looked q es)

  one_entries : IsTotalOrder cmp → ((x y : K) → cmp x y ≡ Equal → x ≡ y) → (es fs : List (K × X)) → IsStrictlySortedBy cmp (keys_of es)
      → IsStrictlySortedBy cmp (keys_of fs) → ((q : K) → lookup (is_at (cmp q)) es ≡ lookup (is_at (cmp q)) fs) → es ≡ fs
  one_entries total same es fs sorted too alike =
      same_entries cmp total same es fs (rising es sorted) (rising fs too) (λ q. looked q es ∙ alike q ∙ sym (looked q fs))

-- ---- series

same_point : (x y : ℕ) → nat_cmp x y ≡ Equal → x ≡ y
same_point x y is = (unsigned_Decides x y).0 (unsigned_ties x y ∙ ap is_eq is)

some_point : (points : List (ℕ × ℕ)) → ArePoints points → ((time : ℕ) → lookup (is_at (nat_cmp time)) points ≡ None) → ⊥
some_point [] are none = absurd (are.some refl)
some_point (point ∷ points) are none =
    let here : cond (is_eq (nat_cmp point.0 point.0)) (Some point.1) (lookup (is_at (nat_cmp point.0)) points) ≡ Some point.1 =
    ap (λ (r : Ordering). cond (is_eq r) (Some point.1) (lookup (is_at (nat_cmp point.0)) points)) (tied_itself nat_cmp_total point.0) in
    absurd (let wrong : Some point.1 ≡ None = sym here ∙ none point.0 in cc)

one_group : (one other : Option (List (ℕ × ℕ))) → IfSome one ArePoints → IfSome other ArePoints
    → ((time : ℕ) → value_in one time ≡ value_in other time) → one ≡ other
one_group None None are too alike = refl
one_group None (Some points) are too alike = absurd (some_point points too (λ time. sym (alike time)))
one_group (Some points) None are too alike = absurd (some_point points are alike)
one_group (Some one) (Some other) are too alike =
    ap Some (one_entries nat_cmp nat_cmp_total same_point one other are.ascending too.ascending alike)

pub one_series : OneSeries
one_series plot profiles one other are too =
    one_entries labels_cmp labels_total same_labels one other are.ascending too.ascending
    (λ q. one_group (lookup (is_at (labels_cmp q)) one) (lookup (is_at (labels_cmp q)) other)
    (IfSome-lookup_from_All ArePoints (is_at (labels_cmp q)) one are.each) (IfSome-lookup_from_All ArePoints (is_at (labels_cmp q)) other too.each)
    (λ time. are.exact q time ∙ sym (too.exact q time)))
