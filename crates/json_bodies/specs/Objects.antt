-- The JSON object that a request's body is (RFC 8259), in the words of the crate serde_json.
use Rattle.std.specs.Prelude.{◌≡◌, ℕ, List, [], ◌∷◌, IsUtf8, IsSome, codes, Some, Result, Ok, Err}
use Rattle.serde_json.specs.Data.{Data, Members, object}
use Rattle.serde_json.specs.Find.{as_object}
use Rattle.serde_json.specs.Read.{read}
use Rattle.json_bodies.specs.declared.object.JsonFault.{JsonFault}
use Rattle.json_bodies.specs.declared.object.JsonFault.TheVariants.{NotObject}

-- the body is UTF-8, and its text is this value
pub record IsJson (body : List ℕ) (value : Data) : Type 0 where
  pub utf8 : IsUtf8 body
  pub text : read body ≡ Some value

-- no object stands in the body
abbrev pub IsNoObject : List ℕ → Type 0
IsNoObject body = (members : Members) → ¬ (IsJson body (object members))

-- the object that the body is, or that there is none
abbrev pub IsReadObject : List ℕ → Result Data JsonFault → Type 0
IsReadObject body (Ok value) = IsJson body value × IsSome (as_object value)
IsReadObject body (Err NotObject) = IsNoObject body

-- a body without bytes stands for `{}`
abbrev pub or_braces : List ℕ → List ℕ
or_braces [] = codes "{}"
or_braces (byte ∷ more) = byte ∷ more
