-- What holds of folded text, read and written.
use Rattle.std.specs.Prelude.{◌≢◌, ℕ, ◌≤◌, List, Ok}
use Rattle.std.specs.List.{All}
use Rattle.std.specs.Map.{keys_of}
use Rattle.std.specs.Str.{IsUtf8}
use Rattle.profile_model.specs.Stacks.{IsStack}
use Rattle.profile_model.specs.Sums.{Sample, AreSums}
use Rattle.folded_reader.specs.Folded.{IsReadFolded}
use Rattle.folded_reader.specs.Written.{written_text}

-- a stack whose names hold no ';' and no byte below 0x20
pub record IsPlain (stack : List (List ℕ)) : Type 0 where
  pub frames : IsStack stack
  pub utf8 : All IsUtf8 stack
  pub kept : All (All (λ b. (32 ≤ b) × (b ≢ 59))) stack

-- what is written of sums with such stacks is read back to the same sums
abbrev pub IsReadBack : List Sample → Type 0
IsReadBack sums = AreSums sums → All IsPlain (keys_of sums) → IsReadFolded (written_text sums) (Ok sums)
