-- What packed numbers spell, beside what is computed in Fields.antt.
use Rattle.std.specs.Prelude.{◌≡◌, ℕ, ◌<◌, List, [], ◌∷◌, length, Bool, true, false, All}
use Rattle.wire_proto.specs.declared.field.WireFault.{WireFault}
use Rattle.wire_proto.specs.Varint.{HasVarint, IsVarintFault}
use Rattle.pprof_message.specs.Fields.{packed}

-- The bytes are the spellings of these numbers, one after another, and then nothing more or, where they aren't whole,
-- bytes at whose front no number stands.
abbrev pub SpellsPacked : List ℕ → List ℕ → Bool → Type 0
SpellsPacked bytes [] true = bytes ≡ []
SpellsPacked bytes [] false = (0 < length bytes) × (fault : WireFault) × IsVarintFault bytes 0 fault
SpellsPacked bytes (n ∷ ns) whole = (rest : List ℕ) × HasVarint bytes n rest × SpellsPacked rest ns whole

-- the packed numbers of any bytes are what they spell
abbrev pub PackedAreSpelled : Type 0
PackedAreSpelled = (bytes : List ℕ) → All (λ b. b < 256) bytes → SpellsPacked bytes (packed bytes).numbers (packed bytes).is_whole

-- and nothing else is
abbrev pub PackedAreOne : Type 0
PackedAreOne = (bytes numbers : List ℕ) (whole : Bool) → All (λ b. b < 256) bytes → SpellsPacked bytes numbers whole → packed bytes ≡ record { numbers = numbers; is_whole = whole }
