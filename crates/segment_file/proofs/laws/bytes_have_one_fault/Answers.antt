use Rattle.segment_file.proofs.FaultLemmas.{one_fault, whole_unbroken}
use Rattle.segment_file.proofs.laws.bytes_have_one_fault.Goals as goal

pub returns-clause-one : goal.returns-clause-one
returns-clause-one c = one_fault

pub returns-clause-none : goal.returns-clause-none
returns-clause-none c = whole_unbroken
