-- One label set more, and names that are looked for among others.
use Rattle.std.proofs.Common.{◌≡◌, ℕ, List, [], ◌∷◌, length, map, filter, fold, Bool, true, false, ◌||◌, nat_eq, Bor, Ordering, true≢false, refl, sym, ap, ◌∙◌}
use Rattle.std.specs.BTreeSet.{insert_key}
use Rattle.std.specs.Cmp.Lexicographic.{pointwise, bytes_decides, nat_list_cmp_total, texts_ties}
use Rattle.std.specs.Ordering.{eq_by_cmp, is_eq}
use Rattle.std.specs.List.{list_any}
use Rattle.profile_model.specs.LabelOrder.{labels_cmp}
use Rattle.profile_model.specs.LabelSets.{Label}
use Rattle.profile_model.specs.Stacks.{name_cmp}
use Rattle.label_queries.specs.Labels.{cut_to, is_kept}
use Rattle.label_queries.specs.Ordered.{ascending}
use Rattle.label_queries.proofs.OrderLemmas.{ascending_are_members, insert_seen}

-- sets, cut and kept in order, where one more is taken from those that are left
pub one_set_more : {V : Type 0} (labels : V → List Label) (cmp : V → V → Ordering)
    → ((x y : V) → cmp x y ≡ labels_cmp (labels x) (labels y))
    → (cut : List Label → List Label) (kept more : List V) (v : V) (left rest whole : List (List Label)) (set : List Label)
    → left ≡ set ∷ rest → more ≡ insert_key cmp kept v → labels v ≡ cut set
    → fold (insert_key labels_cmp) (map labels kept) (map cut left) ≡ whole
    → fold (insert_key labels_cmp) (map labels more) (map cut rest) ≡ whole
one_set_more labels cmp same cut kept more v left rest whole set taken put is sofar =
    rw (put, insert_seen labels cmp labels_cmp same kept v, is) (rw taken at sofar)

-- ---- names in order

any_of_texts : (name : List ℕ) (names : List (Bor (List ℕ)))
    → list_any (λ other. is_eq (name_cmp name other.now)) names ≡ list_any (pointwise nat_eq name) (map (λ other. other.now) names)
any_of_texts name [] = refl
any_of_texts name (first ∷ more) = λ i. sym (texts_ties name first.now) i || any_of_texts name more i

-- among some names, a name is kept where it is one of them
pub kept_among : (name : List ℕ) (names : List (Bor (List ℕ))) → (length names ≡ 0 → ⊥)
    → list_any (λ other. is_eq (name_cmp name other.now)) names ≡ is_kept (map (λ other. other.now) names) name
kept_among name [] some = absurd (some refl)
kept_among name (first ∷ more) some = any_of_texts name (first ∷ more)

-- names, kept in order, where one more is taken from those that are left
pub one_name_more : (kept more : List (Bor (List ℕ))) (name : Bor (List ℕ)) (left rest : List (Bor (List ℕ))) (whole : List (List ℕ))
    → left ≡ name ∷ rest → more ≡ insert_key (λ x y. name_cmp x.now y.now) kept name
    → fold (insert_key name_cmp) (map (λ other. other.now) kept) (map (λ other. other.now) left) ≡ whole
    → fold (insert_key name_cmp) (map (λ other. other.now) more) (map (λ other. other.now) rest) ≡ whole
one_name_more kept more name left rest whole taken put sofar =
    rw (put, insert_seen (λ other. other.now) (λ x y. name_cmp x.now y.now) name_cmp (λ x y. refl) kept name) (rw taken at sofar)

any_by_order : (name : List ℕ) (names : List (List ℕ)) → list_any (pointwise nat_eq name) names ≡ list_any (eq_by_cmp name_cmp name) names
any_by_order name names = ap (λ (test : List ℕ → Bool). list_any test names) (λ i other. texts_ties name other i)

kept_of_members : (name first : List ℕ) (more members : List (List ℕ))
    → ((x : List ℕ) → list_any (eq_by_cmp name_cmp x) members ≡ list_any (eq_by_cmp name_cmp x) (first ∷ more))
    → is_kept members name ≡ is_kept (first ∷ more) name
kept_of_members name first more [] same =
    let there : eq_by_cmp name_cmp first first ≡ true = sym (texts_ties first first) ∙ (bytes_decides first first).1 refl in
    let none : false ≡ (eq_by_cmp name_cmp first first || list_any (eq_by_cmp name_cmp first) more) = same first in
    absurd (true≢false (sym (none ∙ ap (λ b. b || list_any (eq_by_cmp name_cmp first) more) there)))
kept_of_members name first more (m ∷ members) same = any_by_order name (m ∷ members) ∙ same name ∙ sym (any_by_order name (first ∷ more))

kept_in_order : (names : List (List ℕ)) (name : List ℕ) → is_kept (ascending name_cmp names) name ≡ is_kept names name
kept_in_order [] name = refl
kept_in_order (first ∷ more) name =
    kept_of_members name first more (ascending name_cmp (first ∷ more)) (ascending_are_members nat_list_cmp_total (first ∷ more)).same

-- labels are cut to names in order as to the names
pub cut_in_order : (names : List (List ℕ)) (set : List Label) → cut_to (ascending name_cmp names) set ≡ cut_to names set
cut_in_order names set = λ i. filter (λ label. kept_in_order names label.0 i) set
