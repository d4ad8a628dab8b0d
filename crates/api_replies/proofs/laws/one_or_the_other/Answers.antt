use Rattle.api_replies.proofs.FailureLemmas.{never_both, reply_is_no_failure}
use Rattle.api_replies.proofs.laws.one_or_the_other.Goals as goal

pub returns-clause-no_failure : goal.returns-clause-no_failure
returns-clause-no_failure c = reply_is_no_failure

pub returns-clause-never_both : goal.returns-clause-never_both
returns-clause-never_both c = never_both
