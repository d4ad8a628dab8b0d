use Rattle.pyro_server.proofs.Input.{answers_all_input, answers_the_first, reads_to_the_end}
use Rattle.pyro_server.proofs.laws.all_input_is_answered.Goals as goal

pub returns-clause-answers : goal.returns-clause-answers
returns-clause-answers c = answers_all_input

pub returns-clause-reads : goal.returns-clause-reads
returns-clause-reads c = reads_to_the_end

pub returns-clause-first : goal.returns-clause-first
returns-clause-first c = answers_the_first
