use Rattle.query_merge.proofs.QueryLemmas.{query_once}
use Rattle.query_merge.proofs.laws.one_query_of_a_text.Goals as goal

pub returns : goal.returns
returns c = query_once
