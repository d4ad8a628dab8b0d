use Rattle.folded_reader.specs.declared.line.LineForm.TheVariants.{Counted, Bare}
use Rattle.folded_reader.proofs.AnswerLemmas.{one_answer}
use Rattle.folded_reader.proofs.laws.one_answer.Goals as goal

pub returns : goal.returns
returns c = record { folded = one_answer Counted; lines = one_answer Bare }
