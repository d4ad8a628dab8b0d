use Rattle.query_merge.proofs.OnceLemmas.{one_series, one_span}
use Rattle.query_merge.proofs.QueryLemmas.{one_type}
use Rattle.query_merge.proofs.laws.answers_are_told_once.Goals as goal

pub returns-clause-span : goal.returns-clause-span
returns-clause-span c = one_span

pub returns-clause-series : goal.returns-clause-series
returns-clause-series c = one_series

pub returns-clause-types : goal.returns-clause-types
returns-clause-types c = one_type
