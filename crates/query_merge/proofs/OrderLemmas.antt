-- What doesn't depend on the order of profiles.
use Rattle.std.proofs.Common.{◌≡◌, ◌∙◌, ◌+◌, ◌≤◌, ◌||◌, ℕ, Bool, true, false, cond, List, [], ◌∷◌, length, map, arith, Some, None, Ordering, Less, Equal, Greater, refl, sym, ap, true≢false}
use Rattle.std.specs.Prelude.{◌&&◌, filter, flat_map, sum_by}
use Rattle.std.specs.Cmp.{IsTotalOrder, tied_itself}
use Rattle.std.specs.Cmp.Lexicographic.{bytes_decides, nat_list_cmp_total, texts_ties}
use Rattle.std.specs.List.{AllByRecursion, list_any}
use Rattle.std.specs.List.Sorted.{IsPermutation, IsStrictlySortedBy}
use Rattle.std.specs.Ordering.{eq_by_cmp, is_eq, ordering_reverse}
use Rattle.std.proofs.lemmas.List.Sorted.{All-permutation, Contains-permutation, IsPermutation-map, length_permutation, list_any-IsPermutation, sum_by-IsPermutation}
use Rattle.std.proofs.lemmas.List.Sums.{sum_by-cons}
use Rattle.label_queries.proofs.OrderLemmas.{ascending_are_members}
use Rattle.label_queries.proofs.SetLemmas.{below_all, none_above}
use Rattle.label_queries.specs.Labels.{is_asked, shown_labels}
use Rattle.label_queries.specs.Ordered.{ascending}
use Rattle.profile_model.proofs.SumLawLemmas.{sums_of-any_order}
use Rattle.profile_model.specs.LabelOrder.{labels_cmp, labels_ties, labels_total}
use Rattle.profile_model.specs.LabelSets.{Label}
use Rattle.profile_model.specs.Pushes.{profiles_total}
use Rattle.profile_model.specs.Stacks.{name_cmp}
use Rattle.profile_model.specs.SumLaw.{value_in}
use Rattle.profile_model.specs.Sums.{total_of}
use Rattle.profile_model.specs.TypeTexts.{type_text}
use Rattle.profile_model.specs.declared.profile.Profile.{Profile}
use Rattle.query_merge.specs.Asked as asked
use Rattle.query_merge.specs.Laws.{SeriesInAnyOrder, SetsInAnyOrder, SpanInAnyOrder, StacksInAnyOrder, TypesInAnyOrder}
use Rattle.query_merge.specs.Merging.{asked_samples}
use Rattle.query_merge.specs.Plotted.{counts_at, total_of_any}
use Rattle.query_merge.specs.Rows.{times_of}
use Rattle.query_merge.specs.TypeLists.{type_texts_of}
use Rattle.query_merge.proofs.AskedLemmas.{labels_decide}
use Rattle.query_merge.proofs.SumLemmas.{eq_is, value_in-append}

-- ---- members in order

module _ {A : Type 0} {cmp : A → A → Ordering} (o : IsTotalOrder cmp) (same : (x y : A) → cmp x y ≡ Equal → x ≡ y) where
  has_itself : (x : A) (xs : List A) → list_any (eq_by_cmp cmp x) (x ∷ xs) ≡ true
  has_itself x xs = ap (λ (r : Ordering). is_eq r || list_any (eq_by_cmp cmp x) xs) (tied_itself o x)

  lacks_lower : (x y : A) (ys : List A) → cmp x y ≡ Less → AllByRecursion (λ z. cmp y z ≡ Less) ys → list_any (eq_by_cmp cmp x) (y ∷ ys) ≡ false
  lacks_lower x y ys below above =
      ap (λ (r : Ordering). is_eq r || list_any (eq_by_cmp cmp x) ys) below ∙ none_above o x ys (below_all o x y ys below above)

  tails : (x y : A) (xs ys : List A) → x ≡ y → AllByRecursion (λ z. cmp x z ≡ Less) xs → AllByRecursion (λ z. cmp y z ≡ Less) ys
      → ((q : A) → list_any (eq_by_cmp cmp q) (x ∷ xs) ≡ list_any (eq_by_cmp cmp q) (y ∷ ys)) → (q : A)
      → list_any (eq_by_cmp cmp q) xs ≡ list_any (eq_by_cmp cmp q) ys
  tails x y xs ys first above_x above_y alike q = by (is_eq (cmp q x)) refl
    where
      by : (b : Bool) → is_eq (cmp q x) ≡ b → list_any (eq_by_cmp cmp q) xs ≡ list_any (eq_by_cmp cmp q) ys
      by true is =
          let here : q ≡ x = same q x (eq_is (cmp q x) is) in
          ap (λ (p : A). list_any (eq_by_cmp cmp p) xs) here ∙ none_above o x xs above_x
          ∙ sym (ap (λ (p : A). list_any (eq_by_cmp cmp p) ys) (here ∙ first) ∙ none_above o y ys above_y)
      by false is =
          sym (ap (λ (b : Bool). b || list_any (eq_by_cmp cmp q) xs) is) ∙ alike q
          ∙ ap (λ (b : Bool). b || list_any (eq_by_cmp cmp q) ys) (ap (λ (p : A). is_eq (cmp q p)) (sym first) ∙ is)

  once : (xs ys : List A) → IsStrictlySortedBy cmp xs → IsStrictlySortedBy cmp ys
      → ((q : A) → list_any (eq_by_cmp cmp q) xs ≡ list_any (eq_by_cmp cmp q) ys) → xs ≡ ys
  unfolding IsStrictlySortedBy
  once [] [] s t alike = refl
  once [] (y ∷ ys) s t alike = absurd (true≢false (sym (alike y ∙ has_itself y ys)))
  once (x ∷ xs) [] s t alike = absurd (true≢false (sym (has_itself x xs) ∙ alike x))
  once (x ∷ xs) (y ∷ ys) s t alike = by (cmp x y) refl (once xs ys s.1 t.1)
    where
      by : (r : Ordering) → cmp x y ≡ r → (((q : A) → list_any (eq_by_cmp cmp q) xs ≡ list_any (eq_by_cmp cmp q) ys) → xs ≡ ys) → x ∷ xs ≡ y ∷ ys
      by Less is rest = absurd (true≢false (sym (has_itself x xs) ∙ alike x ∙ lacks_lower x y ys is t.0))
      by Greater is rest =
          absurd (true≢false (sym (has_itself y ys) ∙ sym (alike y) ∙ lacks_lower y x xs (o.antisymm y x ∙ ap ordering_reverse is) s.0))
      by Equal is rest =
          let first = same x y is in
          let later = rest (tails x y xs ys first s.0 t.0 alike) in
          λ i. first i ∷ later i

  ascending_alike : (xs ys : List A) → ((q : A) → list_any (eq_by_cmp cmp q) xs ≡ list_any (eq_by_cmp cmp q) ys) → ascending cmp xs ≡ ascending cmp ys
  ascending_alike xs ys alike =
      let one = ascending_are_members o xs in let other = ascending_are_members o ys in
      once (ascending cmp xs) (ascending cmp ys) one.ascending other.ascending (λ q. one.same q ∙ alike q ∙ sym (other.same q))

same_name : (x y : List ℕ) → name_cmp x y ≡ Equal → x ≡ y
same_name x y is = (bytes_decides x y).0 (texts_ties x y ∙ ap is_eq is)

pub same_labels : (x y : List Label) → labels_cmp x y ≡ Equal → x ≡ y
same_labels x y is = (labels_decide x y).0 (labels_ties x y ∙ ap is_eq is)

pub types_in_any_order : TypesInAnyOrder
types_in_any_order profiles others moved =
    ascending_alike nat_list_cmp_total same_name (type_texts_of profiles) (type_texts_of others)
    (λ q. list_any-IsPermutation (eq_by_cmp name_cmp q) (type_texts_of profiles) (type_texts_of others)
    (IsPermutation-map (λ (profile : Profile). type_text profile.kind) profiles others moved))

any_kept : (p : Profile → Bool) (f : Profile → List Label) (t : List Label → Bool) (profiles : List Profile)
    → list_any t (map f (filter p profiles)) ≡ list_any (λ profile. p profile && t (f profile)) profiles
any_kept p f t [] = refl
any_kept p f t (profile ∷ profiles) = by (p profile) (any_kept p f t profiles)
  where
    by : (kept : Bool) → list_any t (map f (filter p profiles)) ≡ list_any (λ one. p one && t (f one)) profiles
        → list_any t (map f (cond kept (profile ∷ filter p profiles) (filter p profiles))) ≡ ((kept && t (f profile)) || list_any (λ one. p one && t (f one)) profiles)
    by true later = ap (λ (b : Bool). t (f profile) || b) later
    by false later = later

pub sets_in_any_order : SetsInAnyOrder
sets_in_any_order selectors profiles others moved =
    ascending_alike labels_total same_labels (map shown_labels (filter (is_asked selectors) profiles)) (map shown_labels (filter (is_asked selectors) others))
    (λ q. any_kept (is_asked selectors) shown_labels (eq_by_cmp labels_cmp q) profiles
    ∙ list_any-IsPermutation (λ profile. is_asked selectors profile && eq_by_cmp labels_cmp q (shown_labels profile)) profiles others moved
    ∙ sym (any_kept (is_asked selectors) shown_labels (eq_by_cmp labels_cmp q) others))

-- ---- spans

none_left : (profiles others : List Profile) → IsPermutation profiles others → profiles ≡ [] → others ≡ []
none_left profiles [] moved none = refl
none_left profiles (other ∷ others) moved none =
    let long = length_permutation profiles (other ∷ others) moved in let short = ap length none in absurd (omega arith)

pub span_in_any_order : SpanInAnyOrder
span_in_any_order profiles others None moved none = none_left profiles others moved none
span_in_any_order profiles others (Some ends) moved are =
    let times = IsPermutation-map (λ (profile : Profile). profile.time_ms) profiles others moved in
    record {
      oldest = Contains-permutation (times_of profiles) (times_of others) ends.0 times are.oldest;
      newest = Contains-permutation (times_of profiles) (times_of others) ends.1 times are.newest;
      none_before = All-permutation (λ time. ends.0 ≤ time) (times_of profiles) (times_of others) times are.none_before;
      none_after = All-permutation (λ time. time ≤ ends.1) (times_of profiles) (times_of others) times are.none_after;
    }

-- ---- sums

value_kept : (p : Profile → Bool) (q : List (List ℕ)) (profiles : List Profile)
    → value_in (flat_map (λ profile. profile.values) (filter p profiles)) q ≡ sum_by (λ profile. cond (p profile) (value_in profile.values q) 0) profiles
value_kept p q [] = refl
value_kept p q (profile ∷ profiles) =
    by (p profile) (value_kept p q profiles)
    ∙ sym (sum_by-cons (λ (one : Profile). cond (p one) (value_in one.values q) 0) profile profiles)
  where
    by : (kept : Bool) → value_in (flat_map (λ one. one.values) (filter p profiles)) q ≡ sum_by (λ one. cond (p one) (value_in one.values q) 0) profiles
        → value_in (flat_map (λ one. one.values) (cond kept (profile ∷ filter p profiles) (filter p profiles))) q
        ≡ cond kept (value_in profile.values q) 0 + sum_by (λ one. cond (p one) (value_in one.values q) 0) profiles
    by true later =
        value_in-append profile.values (flat_map (λ one. one.values) (filter p profiles)) q
        ∙ ap (λ (n : ℕ). value_in profile.values q + n) later
    by false later = omega arith

pub stacks_in_any_order : StacksInAnyOrder
stacks_in_any_order query profiles others moved =
    sums_of-any_order (asked_samples query profiles) (asked_samples query others)
    (λ q. value_kept (asked.is_asked query) q profiles
    ∙ sym (sum_by-IsPermutation (λ profile. cond (asked.is_asked query profile) (value_in profile.values q) 0) profiles others moved)
    ∙ sym (value_kept (asked.is_asked query) q others))

-- ---- values over time

total_kept : (p : Profile → Bool) (profiles : List Profile)
    → profiles_total (filter p profiles) ≡ sum_by (λ profile. cond (p profile) (total_of profile.values) 0) profiles
total_kept p [] = refl
total_kept p (profile ∷ profiles) =
    by (p profile) (total_kept p profiles)
    ∙ sym (sum_by-cons (λ (one : Profile). cond (p one) (total_of one.values) 0) profile profiles)
  where
    by : (kept : Bool) → profiles_total (filter p profiles) ≡ sum_by (λ one. cond (p one) (total_of one.values) 0) profiles
        → profiles_total (cond kept (profile ∷ filter p profiles) (filter p profiles))
        ≡ cond kept (total_of profile.values) 0 + sum_by (λ one. cond (p one) (total_of one.values) 0) profiles
    by true later = sum_by-cons (λ (one : Profile). total_of one.values) profile (filter p profiles) ∙ ap (λ (n : ℕ). total_of profile.values + n) later
    by false later = omega arith

any_total : (profiles : List Profile) → total_of_any profiles ≡ cond (list_any (λ _. true) profiles) (Some (profiles_total profiles)) None
any_total [] = refl
any_total (profile ∷ profiles) = refl

any_filtered : (p : Profile → Bool) (profiles : List Profile) → list_any (λ _. true) (filter p profiles) ≡ list_any p profiles
any_filtered p [] = refl
any_filtered p (profile ∷ profiles) = by (p profile) (any_filtered p profiles)
  where
    by : (kept : Bool) → list_any (λ _. true) (filter p profiles) ≡ list_any p profiles
        → list_any (λ _. true) (cond kept (profile ∷ filter p profiles) (filter p profiles)) ≡ (kept || list_any p profiles)
    by true later = refl
    by false later = later

total_moved : (p : Profile → Bool) (profiles others : List Profile) → IsPermutation profiles others
    → total_of_any (filter p profiles) ≡ total_of_any (filter p others)
total_moved p profiles others moved =
    let some : list_any (λ _. true) (filter p profiles) ≡ list_any (λ _. true) (filter p others) =
    any_filtered p profiles ∙ list_any-IsPermutation p profiles others moved ∙ sym (any_filtered p others) in
    let sum : profiles_total (filter p profiles) ≡ profiles_total (filter p others) =
    total_kept p profiles ∙ sym (sum_by-IsPermutation (λ profile. cond (p profile) (total_of profile.values) 0) profiles others moved) ∙ sym (total_kept p others) in
    any_total (filter p profiles) ∙ (λ i. cond (some i) (Some (sum i)) None) ∙ sym (any_total (filter p others))

pub series_in_any_order : SeriesInAnyOrder
series_in_any_order plot profiles others groups moved are = record {
  ascending = are.ascending;
  each = are.each;
  exact = λ q t. are.exact q t ∙ total_moved (counts_at plot q t) profiles others moved;
}
