-- What reading a name answers.
use Rattle.std.specs.Prelude.{◌≡◌, ℕ, List, Result, Ok, Err}
use Rattle.std.specs.Str.{IsUtf8, IsValidUpTo}
use Rattle.profile_model.specs.declared.name.NameFault.{NameFault}
use Rattle.profile_model.specs.declared.name.NameFault.TheVariants.{NotUtf8}

-- the bytes themselves where they are UTF-8, else the length of their longest front that is
abbrev pub IsReadName : List ℕ → Result (List ℕ) NameFault → Type 0
IsReadName bytes (Ok name) = IsUtf8 bytes × (name ≡ bytes)
IsReadName bytes (Err (NotUtf8 at)) = (¬ (IsUtf8 bytes)) × IsValidUpTo bytes at
