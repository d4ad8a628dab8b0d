use Rattle.std.proofs.Common.{◌≡◌, ◌∙◌, sym, ap, Some, None, true, false}
use Rattle.std.specs.Prelude.{codes, nat_eq}
use Rattle.std.specs.Cmp.Lexicographic.{pointwise}
use Rattle.std.proofs.lemmas.Result.{IfOk-weaker}
use Rattle.profile_model.specs.LabelSets.{label_of}
use Rattle.profile_model.specs.TypeTexts.{type_text}
use Rattle.selector.proofs.SeenLemmas.{seen_type, seen_name, seen_own, some_value, no_value, copied}
use Rattle.selector.proofs.matchers.seen_value.Goals as goal

pub returns-then-eq : goal.returns-then-eq
returns-then-eq c =
    let name = c.args.name.now in
    let is : pointwise nat_eq name (codes "__profile_type__") ≡ true = cc in
    let text : c.as_str.result.now ≡ type_text c.args.kind.now = c.as_str.ensures.value ∙ c.in_ok-text.ensures.ok in
    IfOk-weaker c.from_text.result _ _ (λ value same. same ∙ text ∙ sym (seen_type c.args.labels.now c.args.kind.now name is)) c.from_text.ensures.ok

pub returns-then-eq-2 : goal.returns-then-eq-2
returns-then-eq-2 c =
    let name = c.args.name.now in
    let other : pointwise nat_eq name (codes "__profile_type__") ≡ false = cc in
    let is : pointwise nat_eq name (codes "__name__") ≡ true = cc in
    copied c.clone.result c.args.kind.now.name _ _ c.clone.ensures.cases (sym (seen_name c.args.labels.now c.args.kind.now name other is))

pub returns-in-Some : goal.returns-in-Some
returns-in-Some c =
    let labels = c.args.labels.now in
    let name = c.args.name.now in
    let other : pointwise nat_eq name (codes "__profile_type__") ≡ false = cc in
    let another : pointwise nat_eq name (codes "__name__") ≡ false = cc in
    let found : label_of labels name ≡ Some c.in-Some.value.now = ap (label_of labels) (sym c.as_bytes.ensures.value) ∙ sym c.in-Some.ensures in
    copied c.clone-in-Some.result c.in-Some.value.now _ _ c.clone-in-Some.ensures.cases
    (sym (seen_own labels c.args.kind.now name other another ∙ some_value labels name c.in-Some.value.now found))

pub returns-in-None : goal.returns-in-None
returns-in-None c =
    let labels = c.args.labels.now in
    let name = c.args.name.now in
    let other : pointwise nat_eq name (codes "__profile_type__") ≡ false = cc in
    let another : pointwise nat_eq name (codes "__name__") ≡ false = cc in
    let none : label_of labels name ≡ None = ap (label_of labels) (sym c.as_bytes.ensures.value) ∙ sym c.in-None.ensures in
    IfOk-weaker c.from_text-in-None.result _ _ (λ value same. same ∙ sym (seen_own labels c.args.kind.now name other another ∙ no_value labels name none))
    c.from_text-in-None.ensures.ok
