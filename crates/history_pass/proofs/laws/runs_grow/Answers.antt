use Rattle.history_pass.proofs.WorldLemmas.{runs_grow}
use Rattle.history_pass.proofs.laws.runs_grow.Goals as goal

pub returns : goal.returns
returns c = record { grow = runs_grow }
