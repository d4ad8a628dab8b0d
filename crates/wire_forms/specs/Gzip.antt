-- How gzip begins.
use Rattle.std.specs.Prelude.{ℕ, Bool, List, [], ◌∷◌, nat_eq, IsTrue}
use Rattle.std.specs.List.{starts_with}

-- the bytes begin as gzip does (RFC 1952)
abbrev pub begins_as_gzip : List ℕ → Bool
begins_as_gzip bytes = starts_with nat_eq bytes (0x1F ∷ 0x8B ∷ [])

-- the same as a fact
abbrev pub IsGzip : List ℕ → Type 0
IsGzip bytes = IsTrue (begins_as_gzip bytes)
