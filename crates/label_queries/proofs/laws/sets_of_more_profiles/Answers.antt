use Rattle.label_queries.proofs.SetLemmas.{one_profile_more}
use Rattle.label_queries.proofs.laws.sets_of_more_profiles.Goals as goal

pub returns : goal.returns
returns c = one_profile_more
