use Rattle.pprof_codec.proofs.AnswerLemmas.{one_answer}
use Rattle.pprof_codec.proofs.laws.one_answer.Goals as goal

pub returns : goal.returns
returns c = one_answer
