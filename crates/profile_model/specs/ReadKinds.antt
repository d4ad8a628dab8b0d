-- What reading a profile's type answers.
use Rattle.std.specs.Prelude.{◌≡◌, ◌≢◌, ℕ, List, [], ◌∷◌, length, Result, Ok, Err}
use Rattle.profile_model.specs.Kinds.{parts_of}
use Rattle.profile_model.specs.declared.kind.ProfileType.{ProfileType}
use Rattle.profile_model.specs.declared.kind.TypeFault.{TypeFault}
use Rattle.profile_model.specs.declared.kind.TypeFault.TheVariants.{NotFiveParts}

-- the five parts, in order
abbrev pub parts_in : ProfileType → List (List ℕ)
parts_in kind = kind.name ∷ kind.sample_type ∷ kind.sample_unit ∷ kind.period_type ∷ kind.period_unit ∷ []

-- the type whose parts are those of the text, where these are five
abbrev pub IsReadType : List ℕ → Result ProfileType TypeFault → Type 0
IsReadType text (Ok kind) = parts_of text ≡ parts_in kind
IsReadType text (Err NotFiveParts) = length (parts_of text) ≢ 5
