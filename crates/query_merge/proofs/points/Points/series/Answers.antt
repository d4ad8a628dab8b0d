use Rattle.std.proofs.Common.{map, subst, sym}
use Rattle.std.specs.Prelude.{IfOk}
use Rattle.query_merge.specs.Gathering.{ArePointsOf, PointsView}
use Rattle.query_merge.specs.Plotted.{AreSeriesOf}
use Rattle.query_merge.proofs.PlotLemmas.{all_series, listed_one}
use Rattle.query_merge.proofs.points.Points.series.Goals as goal

pub returns : goal.returns
returns c = λ profiles are.
    let same : ArePointsOf (record { plot = c.self.inside.plan; held = c.self.inside.held }) profiles =
    subst (λ (points : PointsView). ArePointsOf points profiles) (sym c.self.view_is) are in
    subst (λ (points : PointsView). IfOk c.series.result (λ series. AreSeriesOf points.plot profiles (map listed_one series.items))) c.self.view_is
    (all_series (λ series. series.items) c.self.inside.plan profiles c.self.inside.held c.series.result same
    c.series.ensures.groups c.series.ensures.ordered c.series.ensures.points)
