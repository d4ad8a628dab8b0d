-- What is said of a fault, where want of memory says nothing.
use Rattle.std.specs.Prelude.{⊤, Result, Ok, Err}
use Rattle.faults.specs.declared.refused.Refused.{Refused}
use Rattle.faults.specs.declared.refused.Refused.TheVariants.{Fault, Memory}

-- of the fault, if it is one
abbrev pub IfFault : {F : Type 0} → (F → Type 0) → Refused F → Type 0
IfFault P (Fault fault) = P fault
IfFault P Memory = ⊤

-- of the answer, unless memory ran out
abbrev pub IfAnswered : {A F : Type 0} → (Result A F → Type 0) → Result A (Refused F) → Type 0
IfAnswered P (Ok answer) = P (Ok answer)
IfAnswered P (Err (Fault fault)) = P (Err fault)
IfAnswered P (Err Memory) = ⊤

-- a fault is told by one that stands so to it, and want of memory stays what it is
abbrev pub IsMapped : {F G : Type 0} → (F → G → Type 0) → Refused F → Refused G → Type 0
IsMapped R (Fault before) (Fault after) = R before after
IsMapped R Memory Memory = ⊤
IsMapped R before after = ⊥
