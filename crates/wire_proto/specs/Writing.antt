-- The bytes that are written: each number in its shortest spelling.
use Rattle.std.specs.Prelude.{ℕ, zero, suc, ◌+◌, ◌*◌, ◌/◌, ◌%◌, ◌≤◌, List, [], ◌∷◌, ◌++◌, length, nat_lt, if◌then◌else◌}
use Rattle.wire_proto.specs.Varint.{IsVarint}

-- no other spelling of the number has fewer bytes
pub record IsShortest (bytes : List ℕ) (n : ℕ) : Type 0 where
  pub spelled : IsVarint bytes n
  pub shortest : (other : List ℕ) → IsVarint other n → length bytes ≤ length other

-- the groups of a number, where up to `more` bytes may come after the first
unfoldable pub groups_of : ℕ → ℕ → List ℕ
groups_of zero n = n ∷ []
groups_of (suc more) n = if nat_lt n 128 then n ∷ [] else (n % 128 + 128) ∷ groups_of more (n / 128)

-- the shortest spelling of a number below 2 ^ 64
unfoldable pub varint : ℕ → List ℕ
varint n = groups_of 9 n

-- a field that holds a number
abbrev pub number_field : ℕ → ℕ → List ℕ
number_field number n = varint (number * 8) ++ varint n

-- a field that holds bytes
abbrev pub bytes_field : ℕ → List ℕ → List ℕ
bytes_field number bytes = varint (number * 8 + 2) ++ varint (length bytes) ++ bytes
