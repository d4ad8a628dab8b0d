use Rattle.std.proofs.Common.{◌≡◌, length, subst, arith}
use Rattle.json_bodies.specs.KeptSeries.{AreSeries, IsKept}
use Rattle.json_bodies.proofs.SeriesLemmas.{series_cut, series_cut_before, series_pushed}
use Rattle.json_bodies.proofs.series.with_series.Goals as goal

pub returns-in_ok-push-in-Ok-series : goal.returns-in_ok-push-in-Ok-series
returns-in_ok-push-in-Ok-series c = λ ds d are kept.
    series_pushed ds d c.in-Ok.all c.push.new.self c.in-Ok-series.series (subst (AreSeries ds) c.in-Ok.is are)
    (subst (IsKept d) c.in-Ok-series.is kept) c.in_ok-push-in-Ok-series.ensures.items

pub returns-in-Err-series : goal.returns-in-Err-series
returns-in-Err-series c = λ ds d are kept.
    let counted : c.len.result ≡ length c.in-Ok.all.items = omega arith in
    series_cut ds d c.in-Ok.all c.len.result c.in-Err-series.sample (subst (AreSeries ds) c.in-Ok.is are)
    (subst (IsKept d) c.in-Err-series.is kept) counted

pub returns-in-Err : goal.returns-in-Err
returns-in-Err c = λ ds d are kept. series_cut_before ds d c.in-Err.fault (subst (AreSeries ds) c.in-Err.is are)
