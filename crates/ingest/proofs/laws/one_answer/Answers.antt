use Rattle.ingest.proofs.AnswerLemmas.{one_answer}
use Rattle.ingest.proofs.laws.one_answer.Goals as goal

pub returns : goal.returns
returns c = λ tenant parameters body moment first second. one_answer parameters body moment tenant first second
