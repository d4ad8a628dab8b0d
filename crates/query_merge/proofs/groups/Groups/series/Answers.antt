use Rattle.std.proofs.Common.{◌∙◌, List, ap, subst, sym}
use Rattle.std.specs.List.Sorted.{IsStrictlySortedBy}
use Rattle.std.specs.Map.{keys_of}
use Rattle.profile_model.specs.LabelOrder.{labels_cmp}
use Rattle.profile_model.specs.LabelSets.{Label}
use Rattle.query_merge.specs.Gathering.{GroupsView}
use Rattle.query_merge.proofs.PlotLemmas.{keys_shown}
use Rattle.query_merge.proofs.groups.Groups.series.Goals as goal

pub returns-clause-ordered : goal.returns-clause-ordered
returns-clause-ordered c =
    subst (λ (keys : List (List Label)). IsStrictlySortedBy labels_cmp keys)
    (sym (keys_shown c.self.inside.values.entries) ∙ ap (λ (g : GroupsView). keys_of g.groups) c.self.view_is) c.len.ensures.ordered
