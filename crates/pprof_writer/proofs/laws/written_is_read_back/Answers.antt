use Rattle.pprof_writer.proofs.BackLemmas.{profile-again, read-again}
use Rattle.pprof_writer.proofs.laws.written_is_read_back.Goals as goal

pub returns-clause-answers : goal.returns-clause-answers
returns-clause-answers c = read-again

pub returns-clause-profile : goal.returns-clause-profile
returns-clause-profile c = profile-again
