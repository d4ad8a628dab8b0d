-- The text of a profile's type.
use Rattle.std.specs.Prelude.{ℕ, List}
use Rattle.std.specs.List.{join_with_byte}
use Rattle.profile_model.specs.ReadKinds.{parts_in}
use Rattle.profile_model.specs.declared.kind.ProfileType.{ProfileType}

-- the five parts, joined by `:`
abbrev pub type_text : ProfileType → List ℕ
type_text kind = join_with_byte 58 (parts_in kind)
