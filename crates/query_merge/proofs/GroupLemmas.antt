-- Labels that stay in a group.
use Rattle.std.proofs.Common.{◌≡◌, ◌∙◌, ◌||◌, ◌+◌, ◌<◌, ℕ, Bool, true, false, cond, not, List, [], ◌∷◌, ◌++◌, length, take, get_or, add-one, refl, sym, ap, subst, append_assoc}
use Rattle.std.specs.Prelude.{◌&&◌, filter, nat_eq}
use Rattle.std.specs.Cmp.Lexicographic.{pointwise, bytes_decides, nat_list_eq_equiv}
use Rattle.std.specs.List.{AllByRecursion, list_any}
use Rattle.std.proofs.Math.Seq.{take-suc}
use Rattle.std.proofs.lemmas.List.Folds.{list_any-append}
use Rattle.profile_model.specs.LabelSets.{Label, without_label}
use Rattle.profile_model.specs.Series.{own_labels}
use Rattle.query_merge.specs.Plotted.{group_of}

filter_cond : (b : Bool) (x : Label) (xs ys : List Label) → xs ≡ ys → cond b (x ∷ xs) xs ≡ cond b (x ∷ ys) ys
filter_cond b x xs ys same = ap (λ (l : List Label). cond b (x ∷ l) l) same

filter_same : (p q : Label → Bool) (xs : List Label) → AllByRecursion (λ x. p x ≡ q x) xs → filter p xs ≡ filter q xs
filter_same p q [] same = refl
filter_same p q (x ∷ xs) same =
    ap (λ (b : Bool). cond b (x ∷ filter p xs) (filter p xs)) same.0 ∙ filter_cond (q x) x (filter p xs) (filter q xs) (filter_same p q xs same.1)

everywhere : (P : Label → Type 0) (xs : List Label) → ((x : Label) → P x) → AllByRecursion P xs
everywhere P [] each = tt
everywhere P (x ∷ xs) each = (each x, everywhere P xs each)

filter_all : (p : Label → Bool) (xs : List Label) → ((x : Label) → p x ≡ true) → filter p xs ≡ xs
filter_all p [] each = refl
filter_all p (x ∷ xs) each = ap (λ (b : Bool). cond b (x ∷ filter p xs) (filter p xs)) (each x) ∙ ap (λ (l : List Label). x ∷ l) (filter_all p xs each)

filter_twice : (p q : Label → Bool) (xs : List Label) → filter q (filter p xs) ≡ filter (λ x. p x && q x) xs
filter_twice p q [] = refl
filter_twice p q (x ∷ xs) = by (p x) (filter_twice p q xs)
  where
    by : (kept : Bool) → filter q (filter p xs) ≡ filter (λ y. p y && q y) xs
        → filter q (cond kept (x ∷ filter p xs) (filter p xs)) ≡ cond (kept && q x) (x ∷ filter (λ y. p y && q y) xs) (filter (λ y. p y && q y) xs)
    by true later = filter_cond (q x) x (filter q (filter p xs)) (filter (λ y. p y && q y) xs) later
    by false later = later

-- ---- one name

abbrev named : List (List ℕ) → Label → Bool
named names label = list_any (pointwise nat_eq label.0) names

or_true : (b : Bool) → (b || true) ≡ true
or_true true = refl
or_true false = refl

turned : (name : List ℕ) (names : List (List ℕ)) → list_any (λ other. pointwise nat_eq other name) names ≡ list_any (pointwise nat_eq name) names
turned name [] = refl
turned name (other ∷ names) = λ i. nat_list_eq_equiv.symm other name i || turned name names i

-- a name among the names takes none away
pub stays : (names : List (List ℕ)) (name : List ℕ) (labels : List Label) → list_any (λ other. pointwise nat_eq other name) names ≡ true
    → labels ≡ filter (λ label. named names label || not (pointwise nat_eq name label.0)) labels
stays names name labels found = sym (filter_all (λ label. named names label || not (pointwise nat_eq name label.0)) labels (λ label. by label (pointwise nat_eq name label.0) refl))
  where
    here : list_any (pointwise nat_eq name) names ≡ true
    here = sym (turned name names) ∙ found

    by : (label : Label) (b : Bool) → pointwise nat_eq name label.0 ≡ b → (named names label || not b) ≡ true
    by label true is =
        let same : named names label ≡ true = ap (λ (n : List ℕ). list_any (pointwise nat_eq n) names) (sym ((bytes_decides name label.0).0 is)) ∙ here in
        ap (λ (b : Bool). b || false) same
    by label false is = or_true (named names label)

-- another takes away just its own
pub goes : (names : List (List ℕ)) (name : List ℕ) (labels : List Label) → list_any (pointwise nat_eq name) names ≡ false
    → without_label labels name ≡ filter (λ label. named names label || not (pointwise nat_eq name label.0)) labels
goes names name labels none =
    filter_same (λ label. not (pointwise nat_eq name label.0)) (λ label. named names label || not (pointwise nat_eq name label.0)) labels
    (everywhere (λ label. not (pointwise nat_eq name label.0) ≡ (named names label || not (pointwise nat_eq name label.0))) labels
    (λ label. by label (pointwise nat_eq name label.0) refl))
  where
    by : (label : Label) (b : Bool) → pointwise nat_eq name label.0 ≡ b → not b ≡ (named names label || not b)
    by label true is =
        let same : named names label ≡ false = ap (λ (n : List ℕ). list_any (pointwise nat_eq n) names) (sym ((bytes_decides name label.0).0 is)) ∙ none in
        sym (ap (λ (b : Bool). b || false) same)
    by label false is = sym (or_true (named names label))

-- ---- one name after another

abbrev seen_in : List Label → Label → Bool
seen_in seen label = list_any (λ one. pointwise nat_eq one.0 label.0) seen

abbrev pub stays_after : List (List ℕ) → List Label → Label → Bool
stays_after names seen label = named names label || not (seen_in seen label)

pub none_seen : (names : List (List ℕ)) (labels : List Label) → labels ≡ filter (stays_after names []) labels
none_seen names labels = sym (filter_all (stays_after names []) labels (λ label. or_true (named names label)))

both : (a b c : Bool) → ((a || not b) && (a || not c)) ≡ (a || not (b || c))
both true b c = refl
both false true c = refl
both false false true = refl
both false false false = refl

or_none : (b : Bool) → (b || false) ≡ b
or_none true = refl
or_none false = refl

pub one_seen : (names : List (List ℕ)) (labels : List Label) (i : ℕ) (label : Label) (old new : List Label) → i < length labels → label ≡ get_or labels i label
    → old ≡ filter (stays_after names (take i labels)) labels
    → new ≡ filter (λ l. named names l || not (pointwise nat_eq label.0 l.0)) old
    → new ≡ filter (stays_after names (take (i + 1) labels)) labels
one_seen names labels i label old new short at was is =
    let next : take (i + 1) labels ≡ take i labels ++ label ∷ [] =
    rw add-one (take-suc labels i label short ∙ ap (λ (last : Label). take i labels ++ last ∷ []) (sym at)) in
    is ∙ ap (filter (λ l. named names l || not (pointwise nat_eq label.0 l.0))) was
    ∙ filter_twice (stays_after names (take i labels)) (λ l. named names l || not (pointwise nat_eq label.0 l.0)) labels
    ∙ filter_same (λ l. stays_after names (take i labels) l && (named names l || not (pointwise nat_eq label.0 l.0))) (stays_after names (take i labels ++ label ∷ [])) labels
    (everywhere (λ l. (stays_after names (take i labels) l && (named names l || not (pointwise nat_eq label.0 l.0))) ≡ stays_after names (take i labels ++ label ∷ []) l) labels
    (λ l. both (named names l) (seen_in (take i labels) l) (pointwise nat_eq label.0 l.0)
    ∙ ap (λ (b : Bool). named names l || not b) (ap (λ (b : Bool). seen_in (take i labels) l || b) (sym (or_none (pointwise nat_eq label.0 l.0)))
    ∙ sym (list_any-append (λ one. pointwise nat_eq one.0 l.0) (take i labels) (label ∷ [])))))
    ∙ ap (λ (seen : List Label). filter (stays_after names seen) labels) (sym next)

each_seen : (seen rest : List Label) → AllByRecursion (λ l. seen_in (seen ++ rest) l ≡ true) rest
each_seen seen [] = tt
each_seen seen (x ∷ rest) = (
  list_any-append (λ one. pointwise nat_eq one.0 x.0) seen (x ∷ rest)
      ∙ ap (λ (b : Bool). seen_in seen x || (b || seen_in rest x)) ((bytes_decides x.0 x.0).1 refl) ∙ or_true (seen_in seen x),
  subst (λ (all : List Label). AllByRecursion (λ l. seen_in all l ≡ true) rest) (append_assoc seen (x ∷ []) rest) (each_seen (seen ++ x ∷ []) rest),
)

weaker_all : (P Q : Label → Type 0) (xs : List Label) → ((x : Label) → P x → Q x) → AllByRecursion P xs → AllByRecursion Q xs
weaker_all P Q [] turn all = tt
weaker_all P Q (x ∷ xs) turn all = (turn x all.0, weaker_all P Q xs turn all.1)

pub all_seen : (names : List (List ℕ)) (labels group : List Label) → group ≡ filter (stays_after names labels) labels
    → own_labels group ≡ group_of names labels
all_seen names labels group is =
    ap own_labels (is ∙ filter_same (stays_after names labels) (named names) labels
    (weaker_all (λ l. seen_in labels l ≡ true) (λ l. stays_after names labels l ≡ named names l) labels
    (λ l here. ap (λ (b : Bool). named names l || not b) here ∙ or_none (named names l)) (each_seen [] labels)))
