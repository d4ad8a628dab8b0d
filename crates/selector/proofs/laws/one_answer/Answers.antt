use Rattle.selector.proofs.AnswerLemmas.{one_selector_answer, one_query_answer}
use Rattle.selector.proofs.laws.one_answer.Goals as goal

pub returns : goal.returns
returns c = record { selector = one_selector_answer; query = one_query_answer }
