-- The folded text of sums.
use Rattle.std.specs.Prelude.{◌==◌, ℕ, List, [], ◌∷◌, ◌++◌, map, nat_lt, decimal, if◌then◌else◌}
use Rattle.std.specs.List.{flat_map, join_with_byte}
use Rattle.profile_model.specs.Sums.{Sample}

-- a byte of a frame as it is written: ':' for ';', and '?' for a byte below 0x20
abbrev pub written_byte : ℕ → ℕ
written_byte b = if b == 59 then 58 else (if nat_lt b 32 then 63 else b)

-- a stack: its frames joined by ';'
abbrev pub written_stack : List (List ℕ) → List ℕ
written_stack frames = join_with_byte 59 (map (λ frame. map written_byte frame) frames)

-- a line: the stack, a space, the value, a newline
abbrev pub written_line : Sample → List ℕ
written_line sample = written_stack sample.0 ++ 32 ∷ decimal sample.1 ++ 10 ∷ []

-- the lines, in the order of the sums
abbrev pub written_text : List Sample → List ℕ
written_text sums = flat_map written_line sums
