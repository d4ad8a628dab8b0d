-- The labels that matchers see, and whether each holds.
use Rattle.std.proofs.Common.{◌≡◌, ℕ, Bool, true, false, cond, List, [], ◌∷◌, refl, sym, ap, ◌∙◌, subst, Option, Some, None, Result, Ok, Err}
use Rattle.std.specs.Prelude.{codes, nat_eq, IfOk, MatchResult}
use Rattle.std.specs.BTreeMap.{insert_entry}
use Rattle.std.specs.Cmp.Lexicographic.{pointwise, bytes_decides, texts_ties}
use Rattle.std.specs.Option.{unwrap_or}
use Rattle.std.specs.Ordering.{is_eq}
use Rattle.std.specs.declared.cmp.Ordering.{Ordering}
use Rattle.std.specs.declared.cmp.Ordering.TheVariants.{Less, Equal, Greater}
use Rattle.std.proofs.lemmas.Bool.{true≢false}
use Rattle.std.proofs.lemmas.Map.Lookups.{exact_bytes}
use Rattle.profile_model.specs.LabelSets.{Label, label_of}
use Rattle.profile_model.specs.Stacks.{name_cmp}
use Rattle.profile_model.specs.TypeTexts.{type_text}
use Rattle.profile_model.specs.declared.kind.ProfileType.{ProfileType}
use Rattle.selector.specs.Matching.{seen_labels, value_of}

-- a look-up after an insertion
inserted : (labels : List Label) (k v q : List ℕ) → label_of (insert_entry name_cmp labels k v) q ≡ cond (pointwise nat_eq q k) (Some v) (label_of labels q)
inserted [] k v q = refl
inserted (e ∷ labels) k v q = by (name_cmp k e.0) refl (inserted labels k v q)
  where
    swap : (a b : Bool) (x y : Option (List ℕ)) → (a ≡ true → b ≡ true → ⊥) → (z : Option (List ℕ)) → cond a x (cond b y z) ≡ cond b y (cond a x z)
    swap true true x y never z = absurd (never refl refl)
    swap true false x y never z = refl
    swap false true x y never z = refl
    swap false false x y never z = refl

    drop_second : (a : Bool) (x y z : Option (List ℕ)) → cond a x z ≡ cond a x (cond a y z)
    drop_second true x y z = refl
    drop_second false x y z = refl

    apart : name_cmp k e.0 ≡ Greater → pointwise nat_eq q e.0 ≡ true → pointwise nat_eq q k ≡ true → ⊥
    apart greater first second =
        let same : k ≡ e.0 = sym ((bytes_decides q k).0 second) ∙ (bytes_decides q e.0).0 first in
        let ties : is_eq (name_cmp k e.0) ≡ true = sym (texts_ties k e.0) ∙ (bytes_decides k e.0).1 same in
        true≢false (sym ties ∙ ap is_eq greater)

    by : (order : Ordering) → name_cmp k e.0 ≡ order → label_of (insert_entry name_cmp labels k v) q ≡ cond (pointwise nat_eq q k) (Some v) (label_of labels q)
        → label_of (insert_entry name_cmp (e ∷ labels) k v) q ≡ cond (pointwise nat_eq q k) (Some v) (label_of (e ∷ labels) q)
    by Less is later = rw is refl
    by Equal is later =
        let same : k ≡ e.0 = exact_bytes k e.0 is in
        rw is (subst (λ x. cond (pointwise nat_eq q e.0) (Some v) (label_of labels q) ≡ cond (pointwise nat_eq q x) (Some v) (cond (pointwise nat_eq q e.0) (Some e.1) (label_of labels q))) (sym same)
        (drop_second (pointwise nat_eq q e.0) (Some v) (Some e.1) (label_of labels q)))
    by Greater is later =
        rw is
        (ap (λ found. cond (pointwise nat_eq q e.0) (Some e.1) found) later
        ∙ swap (pointwise nat_eq q e.0) (pointwise nat_eq q k) (Some e.1) (Some v) (apart is) (label_of labels q))

seen : (labels : List Label) (kind : ProfileType) (q : List ℕ) → label_of (seen_labels labels kind) q
    ≡ cond (pointwise nat_eq q (codes "__profile_type__")) (Some (type_text kind)) (cond (pointwise nat_eq q (codes "__name__")) (Some kind.name) (label_of labels q))
seen labels kind q =
    inserted (insert_entry name_cmp labels (codes "__name__") kind.name) (codes "__profile_type__") (type_text kind) q
    ∙ ap (λ found. cond (pointwise nat_eq q (codes "__profile_type__")) (Some (type_text kind)) found) (inserted labels (codes "__name__") kind.name q)

first_of : (b : Bool) (x y : Option (List ℕ)) → b ≡ true → cond b x y ≡ x
first_of true x y is = refl
first_of false x y is = absurd (true≢false (sym is))

second_of : (b : Bool) (x y : Option (List ℕ)) → b ≡ false → cond b x y ≡ y
second_of true x y is = absurd (true≢false is)
second_of false x y is = refl

pub seen_type : (labels : List Label) (kind : ProfileType) (q : List ℕ) → pointwise nat_eq q (codes "__profile_type__") ≡ true
    → value_of (seen_labels labels kind) q ≡ type_text kind
seen_type labels kind q is =
    ap (λ (found : Option (List ℕ)). unwrap_or found [])
    (seen labels kind q ∙ first_of (pointwise nat_eq q (codes "__profile_type__")) (Some (type_text kind)) (cond (pointwise nat_eq q (codes "__name__")) (Some kind.name) (label_of labels q)) is)

others : (labels : List Label) (kind : ProfileType) (q : List ℕ) → pointwise nat_eq q (codes "__profile_type__") ≡ false
    → label_of (seen_labels labels kind) q ≡ cond (pointwise nat_eq q (codes "__name__")) (Some kind.name) (label_of labels q)
others labels kind q other =
    seen labels kind q
    ∙ second_of (pointwise nat_eq q (codes "__profile_type__")) (Some (type_text kind)) (cond (pointwise nat_eq q (codes "__name__")) (Some kind.name) (label_of labels q)) other

pub seen_name : (labels : List Label) (kind : ProfileType) (q : List ℕ) → pointwise nat_eq q (codes "__profile_type__") ≡ false
    → pointwise nat_eq q (codes "__name__") ≡ true → value_of (seen_labels labels kind) q ≡ kind.name
seen_name labels kind q other is =
    ap (λ (found : Option (List ℕ)). unwrap_or found []) (others labels kind q other ∙ first_of (pointwise nat_eq q (codes "__name__")) (Some kind.name) (label_of labels q) is)

pub seen_own : (labels : List Label) (kind : ProfileType) (q : List ℕ) → pointwise nat_eq q (codes "__profile_type__") ≡ false
    → pointwise nat_eq q (codes "__name__") ≡ false → value_of (seen_labels labels kind) q ≡ value_of labels q
seen_own labels kind q other another =
    ap (λ (found : Option (List ℕ)). unwrap_or found []) (others labels kind q other ∙ second_of (pointwise nat_eq q (codes "__name__")) (Some kind.name) (label_of labels q) another)

-- ---- every matcher

pub some_value : (labels : List Label) (q value : List ℕ) → label_of labels q ≡ Some value → value_of labels q ≡ value
some_value labels q value is = ap (λ (found : Option (List ℕ)). unwrap_or found []) is

pub no_value : (labels : List Label) (q : List ℕ) → label_of labels q ≡ None → value_of labels q ≡ []
no_value labels q is = ap (λ (found : Option (List ℕ)). unwrap_or found []) is

-- a copy of what is equal to a value
pub copied : {E : Type 0} (result : Result (List ℕ) E) (from value : List ℕ) (P : E → Type 0) → MatchResult result (λ copy. copy ≡ from) P → from ≡ value
    → IfOk result (λ copy. copy ≡ value)
copied (Ok copy) from value P is same = is ∙ same
copied (Err refused) from value P is same = tt
