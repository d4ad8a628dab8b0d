use Rattle.std.proofs.Common.{◌∙◌, List, ap}
use Rattle.query_merge.specs.Plotted.{Group}
use Rattle.query_merge.proofs.PlotLemmas.{same_groups}
use Rattle.query_merge.proofs.groups.GroupsClone.clone.Goals as goal

pub returns : goal.returns
returns c =
    let same = same_groups c.self.inside.values.entries c.in_ok-values.values.entries c.in_ok-values.ensures.cases in
    record { cases = ap (λ (groups : List Group). record { groups = groups; total = c.self.inside.total }) same ∙ c.self.view_is }
