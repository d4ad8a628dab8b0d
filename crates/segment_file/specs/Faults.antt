-- A fault of an object's bytes, as operators are told of it.
use Rattle.std.specs.Prelude.{ℕ, List, codes}
use Rattle.segment_file.specs.declared.fault.ObjectFault.{ObjectFault}
use Rattle.segment_file.specs.declared.fault.ObjectRule.{ObjectRule}
use Rattle.segment_file.specs.declared.fault.ObjectRule.TheVariants.{Form, Content}

abbrev pub code_of_rule : ObjectRule → List ℕ
code_of_rule Form = codes "O1"
code_of_rule Content = codes "O9"

abbrev pub code_of : ObjectFault → List ℕ
code_of fault = code_of_rule fault.rule
