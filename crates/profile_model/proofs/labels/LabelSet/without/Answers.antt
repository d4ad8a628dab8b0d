use Rattle.std.proofs.Common.{rules, ◌∙◌, ap, nat_eq, not}
use Rattle.std.proofs.lemmas.Fn.{filter_same}
use Rattle.std.specs.Cmp.Lexicographic.{pointwise}
use Rattle.profile_model.specs.LabelSets.{Label, without_label}
use Rattle.profile_model.proofs.LabelLemmas.{AreLabels-filter, AreProfileLabels-filter}
use Rattle.profile_model.proofs.labels.LabelSet.without.Goals as goal

pub invariant_of-self : goal.invariant_of-self
invariant_of-self c =
    let kept = filter_same _ (λ (label : Label). not (pointwise nat_eq c.args.name.now label.0)) _ (λ x b f k. search rules) _ _ c.retain.ensures.filtered in
    rw kept (AreLabels-filter _ _ c.self.invariant)

pub returns-clause-others : goal.returns-clause-others
returns-clause-others c =
    let kept = filter_same _ (λ (label : Label). not (pointwise nat_eq c.args.name.now label.0)) _ (λ x b f k. search rules) _ _ c.retain.ensures.filtered in
    kept ∙ ap (λ labels. without_label labels c.args.name.now) c.self.view_is

pub returns-clause-profile : goal.returns-clause-profile
returns-clause-profile c = λ profile.
    let kept = filter_same _ (λ (label : Label). not (pointwise nat_eq c.args.name.now label.0)) _ (λ x b f k. search rules) _ _ c.retain.ensures.filtered in
    rw kept (rw c.self.view_is (AreProfileLabels-filter _ _ profile))
