use Rattle.pprof_message.proofs.ReadingLaw.{one_reading}
use Rattle.pprof_message.proofs.laws.one_reading.Goals as goal

pub returns : goal.returns
returns c = one_reading
