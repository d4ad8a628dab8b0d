-- The sets of some profiles, and of one more.
use Rattle.std.proofs.Common.{◌≡◌, List, [], ◌∷◌, ◌++◌, ◌||◌, map, fold, filter, Bool, true, false, cond, Ordering, Less, Equal, Greater, refl, sym, ap, ◌∙◌, true≢false}
use Rattle.std.specs.BTreeSet.{insert_key}
use Rattle.std.specs.Cmp.{IsTotalOrder}
use Rattle.std.specs.List.{AllByRecursion, list_any}
use Rattle.std.specs.List.Sorted.{IsStrictlySortedBy}
use Rattle.std.specs.Ordering.{eq_by_cmp, is_eq, match_ordering}
use Rattle.std.proofs.lemmas.List.{map-append}
use Rattle.std.proofs.lemmas.List.Elements.{filter-append}
use Rattle.std.proofs.lemmas.List.Sums.{fold-append}
use Rattle.profile_model.specs.LabelOrder.{labels_cmp}
use Rattle.profile_model.specs.LabelSets.{Label}
use Rattle.profile_model.specs.declared.profile.Profile.{Profile}
use Rattle.selector.specs.Matching.{Matching}
use Rattle.label_queries.specs.Gathered.{Gathered, with_profile}
use Rattle.label_queries.specs.Labels.{is_asked, label_sets_of, shown_labels}

put_if : (asked : Bool) (sets : List (List Label)) (profile : Profile)
    → fold (insert_key labels_cmp) sets (map shown_labels (cond asked (profile ∷ []) []))
    ≡ cond asked (insert_key labels_cmp sets (shown_labels profile)) sets
put_if true sets profile = refl
put_if false sets profile = refl

sets_of_one_more : (selectors : List (List Matching)) (profiles : List Profile) (profile : Profile)
    → label_sets_of selectors (profiles ++ profile ∷ [])
    ≡ cond (is_asked selectors profile) (insert_key labels_cmp (label_sets_of selectors profiles) (shown_labels profile)) (label_sets_of selectors profiles)
sets_of_one_more selectors profiles profile =
    ap (λ asked. fold (insert_key labels_cmp) [] (map shown_labels asked)) (filter-append (is_asked selectors) profiles (profile ∷ []))
    ∙ ap (fold (insert_key labels_cmp) [])
    (map-append shown_labels (filter (is_asked selectors) profiles) (filter (is_asked selectors) (profile ∷ [])))
    ∙ fold-append (insert_key labels_cmp) [] (map shown_labels (filter (is_asked selectors) profiles))
    (map shown_labels (filter (is_asked selectors) (profile ∷ [])))
    ∙ put_if (is_asked selectors profile) (label_sets_of selectors profiles) profile

abbrev gathered_of : List (List Matching) → List (List Label) → Gathered
gathered_of selectors sets = record { selectors = selectors; sets = sets }

pub one_profile_more : (selectors : List (List Matching)) (profiles : List Profile) (profile : Profile)
    → with_profile (record { selectors = selectors; sets = label_sets_of selectors profiles }) profile
    ≡ record { selectors = selectors; sets = label_sets_of selectors (profiles ++ profile ∷ []) }
one_profile_more selectors profiles profile = ap (gathered_of selectors) (sym (sets_of_one_more selectors profiles profile))

-- for a loop that adds profiles: the sets of those so far, with one more
pub added : (selectors : List (List Matching)) (old new : Gathered) (profiles : List Profile) (profile : Profile)
    → old ≡ record { selectors = selectors; sets = label_sets_of selectors profiles } → new ≡ with_profile old profile
    → new ≡ record { selectors = selectors; sets = label_sets_of selectors (profiles ++ profile ∷ []) }
added selectors old new profiles profile before is = is ∙ ap (λ gathered. with_profile gathered profile) before
    ∙ one_profile_more selectors profiles profile

-- ---- sets that are there

module _ {A : Type 0} {cmp : A → A → Ordering} (o : IsTotalOrder cmp) where
  pub none_above : (x : A) (ys : List A) → AllByRecursion (λ y. cmp x y ≡ Less) ys → list_any (eq_by_cmp cmp x) ys ≡ false
  none_above x [] above = refl
  none_above x (y ∷ ys) above = ap (λ (r : Ordering). is_eq r || list_any (eq_by_cmp cmp x) ys) above.0 ∙ none_above x ys above.1

  pub below_all : (x y : A) (ys : List A) → cmp x y ≡ Less → AllByRecursion (λ z. cmp y z ≡ Less) ys → AllByRecursion (λ z. cmp x z ≡ Less) ys
  below_all x y [] below above = tt
  below_all x y (z ∷ zs) below above = (o.trans x y z below above.0, below_all x y zs below above.1)

  -- one that is there isn't put in again
  pub there : (x : A) (ys : List A) → IsStrictlySortedBy cmp ys → list_any (eq_by_cmp cmp x) ys ≡ true → insert_key cmp ys x ≡ ys
  unfolding IsStrictlySortedBy
  there x [] sorted has = absurd (true≢false (sym has))
  there x (y ∷ ys) sorted has = by (cmp x y) refl (there x ys sorted.1)
    where
      by : (r : Ordering) → cmp x y ≡ r → (list_any (eq_by_cmp cmp x) ys ≡ true → insert_key cmp ys x ≡ ys)
          → match_ordering r (x ∷ y ∷ ys) (y ∷ ys) (y ∷ insert_key cmp ys x) ≡ y ∷ ys
      by Less is later =
          let none : list_any (eq_by_cmp cmp x) (y ∷ ys) ≡ false =
          ap (λ (r : Ordering). is_eq r || list_any (eq_by_cmp cmp x) ys) is ∙ none_above x ys (below_all x y ys is sorted.0) in
          absurd (true≢false (sym has ∙ none))
      by Equal is later = refl
      by Greater is later = ap (λ (zs : List A). y ∷ zs) (later (sym (ap (λ (r : Ordering). is_eq r || list_any (eq_by_cmp cmp x) ys) is) ∙ has))
