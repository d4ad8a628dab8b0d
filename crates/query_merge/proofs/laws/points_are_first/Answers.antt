use Rattle.query_merge.proofs.QueryLemmas.{points_first}
use Rattle.query_merge.proofs.laws.points_are_first.Goals as goal

pub returns : goal.returns
returns c = points_first
