use Rattle.std.proofs.Common.{◌∙◌, None, Some}
use Rattle.profile_model.proofs.LabelLemmas.{label_from_found}
use Rattle.profile_model.proofs.labels.LabelSet.get.Goals as goal

pub returns-in-Some : goal.returns-in-Some
returns-in-Some c =
    label_from_found _ _ c.args.name.now (Some c.in-Some.pair.now) c.in-Some.ensures (c.deref.ensures.value ∙ c.self.view_is)

pub returns-in-None : goal.returns-in-None
returns-in-None c = label_from_found _ _ c.args.name.now None c.in-None.ensures (c.deref.ensures.value ∙ c.self.view_is)
