use Rattle.selector.proofs.MeaningLemmas.{one_selector, one_query}
use Rattle.selector.proofs.laws.one_meaning.Goals as goal

pub returns : goal.returns
returns c = record { selector = one_selector; query = one_query }
