-- A fault of a selector or a query, as clients are told of it.
use Rattle.std.specs.Prelude.{ℕ, List, [], ◌∷◌, codes}
use Rattle.selector.specs.declared.fault.SelectorFault.{SelectorFault}
use Rattle.selector.specs.declared.fault.SelectorFault.TheVariants.{Kind, Syntax, TooMany, Pattern, PatternRefused}

-- the fault's code
abbrev pub code_of : SelectorFault → List ℕ
code_of Kind = codes "S1"
code_of (Syntax at) = codes "S2"
code_of (Pattern i) = codes "S3"
code_of TooMany = codes "S4"
code_of (PatternRefused i) = codes "S5"

-- the place of its byte, or the number of its matcher
abbrev pub place_of : SelectorFault → List ℕ
place_of Kind = []
place_of (Syntax at) = at ∷ []
place_of (Pattern i) = i ∷ []
place_of TooMany = []
place_of (PatternRefused i) = i ∷ []
