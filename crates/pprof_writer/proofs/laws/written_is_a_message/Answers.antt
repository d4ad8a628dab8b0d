use Rattle.pprof_writer.proofs.SaidLemmas.{written_is}
use Rattle.pprof_writer.proofs.laws.written_is_a_message.Goals as goal

pub returns : goal.returns
returns c = written_is
