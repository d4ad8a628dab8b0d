use Rattle.std.proofs.Common.{ap, subst, ◌∙◌}
use Rattle.std.specs.Option.{option_map}
use Rattle.serde_json.specs.Data.{object}
use Rattle.json_bodies.specs.Pushes.{samples_in}
use Rattle.json_bodies.specs.Kept.{AreSamples}
use Rattle.json_bodies.proofs.SeriesLemmas.{kept_without_sample}
use Rattle.json_bodies.proofs.series.series_of.Goals as goal

pub returns-in-Err : goal.returns-in-Err
returns-in-Err c = λ found parts.
    kept_without_sample (object found) c.in-Some.labels.items c.in-Err.sample (parts.labels ∙ ap (option_map (λ l. l.items)) c.in-Some.is)
    (subst (AreSamples (samples_in (object found))) c.in-Err.is parts.samples)
