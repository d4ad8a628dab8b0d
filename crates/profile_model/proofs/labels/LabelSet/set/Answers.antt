use Rattle.std.proofs.Common.{◌≡◌, ◌∙◌, List, ap, set, subst, sym}
use Rattle.profile_model.specs.LabelSets.{Label, AreLabels, AreProfileLabels, with_label}
use Rattle.profile_model.proofs.LabelLemmas.{AreLabels-with_label, AreProfileLabels-with_label, label_inserted, label_replaced}
use Rattle.profile_model.proofs.labels.LabelSet.set.Goals as goal

pub invariant_of-self : goal.invariant_of-self
invariant_of-self c =
    let items = c.self.inside.pairs.items in
    subst AreLabels (label_replaced items c.args.name c.args.value c.in-Ok.at (rw c.deref.ensures.value at c.in-Ok.ensures))
    (AreLabels-with_label items c.args.name c.args.value c.self.invariant)

pub invariant_of-self-in-Continue-1 : goal.invariant_of-self-in-Continue-1
invariant_of-self-in-Continue-1 c =
    let items = c.self.inside.pairs.items in
    subst AreLabels (label_inserted items c.args.name c.args.value c.in-Err.at (rw c.deref.ensures.value at c.in-Err.ensures) ∙ sym c.in_ok-insert-in-Err.ensures.items)
    (AreLabels-with_label items c.args.name c.args.value c.self.invariant)

pub returns-in-Ok-clause-ok : goal.returns-in-Ok-clause-ok
returns-in-Ok-clause-ok c =
    sym (label_replaced c.self.inside.pairs.items c.args.name c.args.value c.in-Ok.at (rw c.deref.ensures.value at c.in-Ok.ensures))
    ∙ ap (λ (labels : List Label). with_label labels c.args.name c.args.value) c.self.view_is

pub returns-in-Ok-clause-profile : goal.returns-in-Ok-clause-profile
returns-in-Ok-clause-profile c = λ few are new.
    let is : set c.self.inside.pairs.items c.in-Ok.at (c.args.name, c.args.value) ≡ with_label c.args.self.now c.args.name c.args.value =
    sym (label_replaced c.self.inside.pairs.items c.args.name c.args.value c.in-Ok.at (rw c.deref.ensures.value at c.in-Ok.ensures))
    ∙ ap (λ (labels : List Label). with_label labels c.args.name c.args.value) c.self.view_is in
    subst AreProfileLabels (sym is) (AreProfileLabels-with_label c.args.self.now c.args.name c.args.value few are new)

pub returns-in_ok-insert-in-Err-clause-ok : goal.returns-in_ok-insert-in-Err-clause-ok
returns-in_ok-insert-in-Err-clause-ok c =
    c.in_ok-insert-in-Err.ensures.items
    ∙ sym (label_inserted c.self.inside.pairs.items c.args.name c.args.value c.in-Err.at (rw c.deref.ensures.value at c.in-Err.ensures))
    ∙ ap (λ (labels : List Label). with_label labels c.args.name c.args.value) c.self.view_is

pub returns-in_ok-insert-in-Err-clause-profile : goal.returns-in_ok-insert-in-Err-clause-profile
returns-in_ok-insert-in-Err-clause-profile c = λ few are new.
    let is : c.insert.new.self.items ≡ with_label c.args.self.now c.args.name c.args.value =
    c.in_ok-insert-in-Err.ensures.items
    ∙ sym (label_inserted c.self.inside.pairs.items c.args.name c.args.value c.in-Err.at (rw c.deref.ensures.value at c.in-Err.ensures))
    ∙ ap (λ (labels : List Label). with_label labels c.args.name c.args.value) c.self.view_is in
    subst AreProfileLabels (sym is) (AreProfileLabels-with_label c.args.self.now c.args.name c.args.value few are new)
