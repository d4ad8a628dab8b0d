use Rattle.shared_store.proofs.ReadingLemmas.{parts_are_whole}
use Rattle.shared_store.proofs.laws.parts_are_whole.Goals as goal

pub returns : goal.returns
returns c = record { whole = parts_are_whole }
