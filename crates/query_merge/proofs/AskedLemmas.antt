-- What a query said of label sets.
use Rattle.std.proofs.Common.{◌≡◌, Bool, true, false, cond, List, refl, sym, ap, subst, ◌∙◌, Some, Result, Ok, Err}
use Rattle.std.specs.Prelude.{OnOk, OnErr, nat_eq}
use Rattle.std.specs.Bool.{Decides}
use Rattle.std.specs.BTreeMap.{BTreeMap, IsUnchanged, Updates, get, is_at}
use Rattle.std.specs.Map.{lookup}
use Rattle.std.specs.Cmp.Lexicographic.{bytes_decides, pointwise, pointwise_decides}
use Rattle.std.proofs.lemmas.Bool.Decides.{Decides-and}
use Rattle.profile_model.specs.LabelOrder.{label_eq, labels_cmp, labels_eq, labels_ties}
use Rattle.profile_model.specs.LabelSets.{Label}
use Rattle.selector.specs.Matching.{matches}
use Rattle.selector.specs.declared.query.Query.{Query}
use Rattle.query_merge.specs.Merging.{AreVerdicts}

pub label_decides : (x y : Label) → Decides (label_eq x y) (x ≡ y)
label_decides x y =
    let both = Decides-and (pointwise nat_eq x.0 y.0) (pointwise nat_eq x.1 y.1) (bytes_decides x.0 y.0) (bytes_decides x.1 y.1) in
    ((λ same. let halves = both.0 same in λ i. (halves.0 i, halves.1 i)), λ is. both.1 ((λ i. (is i).0), (λ i. (is i).1)))

pub labels_decide : (xs ys : List Label) → Decides (labels_eq xs ys) (xs ≡ ys)
labels_decide = pointwise_decides label_decides

-- one label set more
verdict_more : (query : Query) (old new : BTreeMap (List Label) Bool) (labels : List Label) (verdict : Bool) → AreVerdicts query old
    → verdict ≡ matches query.selector labels query.kind
    → ((q : List Label) → get labels_cmp new q ≡ cond (is_at (labels_cmp labels) q) (Some verdict) (get labels_cmp old q)) → AreVerdicts query new
verdict_more query old new labels verdict right said updates q found has = by (is_at (labels_cmp labels) q) refl (sym (updates q) ∙ has)
  where
    by : (here : Bool) → is_at (labels_cmp labels) q ≡ here → cond here (Some verdict) (get labels_cmp old q) ≡ Some found
        → found ≡ matches query.selector q query.kind
    by true is same =
        let one : verdict ≡ found = cc in
        sym one ∙ subst (λ (other : List Label). verdict ≡ matches query.selector other query.kind) ((labels_decide labels q).0 (labels_ties labels q ∙ is)) said
    by false is same = right q found same

-- one label set more, unless memory ran out
pub verdict_put : {A E : Type 0} (put : Result A E) (query : Query) (old new : BTreeMap (List Label) Bool) (labels : List Label) (verdict : Bool)
    → AreVerdicts query old → verdict ≡ matches query.selector labels query.kind
    → OnOk put (Updates labels_cmp old new labels (Some verdict)) → OnErr put (IsUnchanged old new) → AreVerdicts query new
verdict_put (Ok before) query old new labels verdict right said updates same = verdict_more query old new labels verdict right said updates.0
verdict_put (Err refused) query old new labels verdict right said updates same =
    λ q found has. right q found (ap (lookup (is_at (labels_cmp q))) (sym same) ∙ has)
