-- What follows of a fault.
use Rattle.faults.specs.Answers.{IfFault}
use Rattle.faults.specs.declared.refused.Refused.{Refused}
use Rattle.faults.specs.declared.refused.Refused.TheVariants.{Fault, Memory}

-- what holds of a fault and says another thing of it, says it here too
pub IfFault-weaker : {F : Type 0} {P Q : F → Type 0} (refused : Refused F) → ((fault : F) → P fault → Q fault) → IfFault P refused → IfFault Q refused
IfFault-weaker (Fault fault) says holds = says fault holds
IfFault-weaker Memory says holds = tt
