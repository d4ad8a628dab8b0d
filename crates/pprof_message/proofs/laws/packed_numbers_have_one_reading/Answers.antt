use Rattle.pprof_message.proofs.PackedLaw.{spelled, one}
use Rattle.pprof_message.proofs.laws.packed_numbers_have_one_reading.Goals as goal

pub returns : goal.returns
returns c = record { spelled = spelled; one = one }
