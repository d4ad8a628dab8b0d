-- A fault as a reply shows it.
use Rattle.std.specs.Prelude.{ℕ, List, [], ◌∷◌, codes}
use Rattle.folded_reader.specs.declared.fault.FoldedFault.{FoldedFault}
use Rattle.folded_reader.specs.declared.fault.FoldedFault.TheVariants.{NoCount, BadCount, EmptyFrame, TooLarge, TooDeep, NotUtf8, Compressed, LongFrame}

-- the fault's code
abbrev pub code_of : FoldedFault → List ℕ
code_of (NoCount line) = codes "F1"
code_of (BadCount line) = codes "F2"
code_of (EmptyFrame line) = codes "F3"
code_of (TooLarge line) = codes "F4"
code_of (TooDeep line) = codes "F5"
code_of (NotUtf8 at) = codes "F6"
code_of Compressed = codes "F7"
code_of (LongFrame line) = codes "F8"

-- the number of its line, or the place of its byte
abbrev pub place_of : FoldedFault → List ℕ
place_of (NoCount line) = line ∷ []
place_of (BadCount line) = line ∷ []
place_of (EmptyFrame line) = line ∷ []
place_of (TooLarge line) = line ∷ []
place_of (TooDeep line) = line ∷ []
place_of (NotUtf8 at) = at ∷ []
place_of Compressed = []
place_of (LongFrame line) = line ∷ []
