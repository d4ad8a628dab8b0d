use Rattle.profile_model.proofs.SumLawLemmas.{sums_of-are, sums_of-only, sums_of-any_order}
use Rattle.profile_model.proofs.laws.sums_are_exact.Goals as goal

pub returns-clause-sums : goal.returns-clause-sums
returns-clause-sums c = sums_of-are

pub returns-clause-no_other : goal.returns-clause-no_other
returns-clause-no_other c = sums_of-only

pub returns-clause-any_order : goal.returns-clause-any_order
returns-clause-any_order c = sums_of-any_order
