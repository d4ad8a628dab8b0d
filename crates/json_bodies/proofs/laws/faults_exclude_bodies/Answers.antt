use Rattle.json_bodies.proofs.ExclusionLemmas.{names_right, values_right, series_right, no_push}
use Rattle.json_bodies.proofs.laws.faults_exclude_bodies.Goals as goal

pub returns-clause-names : goal.returns-clause-names
returns-clause-names c = names_right

pub returns-clause-values : goal.returns-clause-values
returns-clause-values c = values_right

pub returns-clause-series : goal.returns-clause-series
returns-clause-series c = series_right

pub returns-clause-push : goal.returns-clause-push
returns-clause-push c = no_push
