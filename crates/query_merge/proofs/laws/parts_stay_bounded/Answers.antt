use Rattle.query_merge.proofs.PartLemmas.{parts_bounded}
use Rattle.query_merge.proofs.laws.parts_stay_bounded.Goals as goal

pub returns : goal.returns
returns c = parts_bounded
