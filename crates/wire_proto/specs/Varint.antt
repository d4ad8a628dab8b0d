-- Varints: numbers in groups of seven bits ("Base 128 Varints" in the Protocol Buffers encoding document). That
-- a tenth byte is 0 or 1, so that each number has 64 bits, is this project's own rule.
use Rattle.std.specs.Prelude.{◌≡◌, ℕ, ◌+◌, ◌-◌, ◌*◌, ◌<◌, ◌≤◌, List, [], ◌∷◌, ◌++◌, length, take, slice_index}
use Rattle.std.specs.List.{AllByRecursion}
use Rattle.wire_proto.specs.declared.field.WireFault.{WireFault}
use Rattle.wire_proto.specs.declared.field.WireFault.TheVariants.{Truncated, BadVarint, BadType}

-- Groups of seven bits, the least first. The last byte is below 128 and stands for itself. One before it has 128
-- added to its seven bits, and the bytes after it stand for the rest of the number.
abbrev pub IsGroups : List ℕ → ℕ → Type 0
IsGroups [] n = ⊥
IsGroups (b ∷ []) n = (b < 128) × (n ≡ b)
IsGroups (b ∷ c ∷ bs) n = (128 ≤ b) × (b < 256) × (rest : ℕ) × (n ≡ (b - 128) + 128 * rest) × IsGroups (c ∷ bs) rest

-- These bytes spell this number, not only as the shortest spelling does. Behind the end `slice_index` is 0.
pub record IsVarint (bytes : List ℕ) (n : ℕ) : Type 0 where
  pub groups : IsGroups bytes n
  pub at_most_ten : length bytes ≤ 10
  pub tenth : slice_index bytes 9 ≤ 1

-- a varint of this number is at the front, and these bytes come after it
pub record HasVarint (bytes : List ℕ) (n : ℕ) (rest : List ℕ) : Type 0 where
  pub spelling : List ℕ
  pub parts : bytes ≡ spelling ++ rest
  pub is_varint : IsVarint spelling n

-- after each of these bytes another one has to follow
abbrev pub GoesOn : List ℕ → Type 0
GoesOn bytes = AllByRecursion (λ b. 128 ≤ b) bytes

-- the bytes end before a varint at their front does
pub record IsCutVarint (bytes : List ℕ) : Type 0 where
  pub goes_on : GoesOn bytes
  pub below_ten : length bytes < 10

-- a varint at the front has a tenth byte above 1
pub record IsBadVarint (bytes : List ℕ) : Type 0 where
  pub goes_on : GoesOn (take 9 bytes)
  pub tenth : 1 < slice_index bytes 9

-- a varint that begins at this place has this fault
abbrev pub IsVarintFault : List ℕ → ℕ → WireFault → Type 0
IsVarintFault bytes at (Truncated place) = (place ≡ at) × IsCutVarint bytes
IsVarintFault bytes at (BadVarint place) = (place ≡ at) × IsBadVarint bytes
IsVarintFault bytes at (BadType place) = ⊥
