use Rattle.query_merge.proofs.PartRowLemmas.{parts_are_rows}
use Rattle.query_merge.proofs.laws.parts_are_rows.Goals as goal

pub returns : goal.returns
returns c = parts_are_rows
