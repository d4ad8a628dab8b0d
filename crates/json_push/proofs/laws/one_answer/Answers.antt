use Rattle.json_push.proofs.AnswerLemmas.{one_answer}
use Rattle.json_push.proofs.laws.one_answer.Goals as goal

pub returns : goal.returns
returns c = λ tenant body moment first second. one_answer body moment tenant first second
