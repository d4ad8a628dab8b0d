-- The types of profiles.
use Rattle.std.specs.Prelude.{◌≡◌, ℕ, List, length, map}
use Rattle.label_queries.specs.Ordered.{ascending}
use Rattle.profile_model.specs.Kinds.{parts_of}
use Rattle.profile_model.specs.Stacks.{name_cmp}
use Rattle.profile_model.specs.TypeTexts.{type_text}
use Rattle.profile_model.specs.declared.profile.Profile.{Profile}

-- the texts of the profiles' types
abbrev pub type_texts_of : List Profile → List (List ℕ)
type_texts_of profiles = map (λ profile. type_text profile.kind) profiles

-- each of them once, ascending
abbrev pub types_of : List Profile → List (List ℕ)
types_of profiles = ascending name_cmp (type_texts_of profiles)

-- a text of five parts is some type's
abbrev pub HasFiveParts : List ℕ → Type 0
HasFiveParts text = length (parts_of text) ≡ 5
