-- A walk over the tokens of a text, in the words of the crates json and serde_json.
use Rattle.std.specs.Prelude.{◌≡◌, ℕ, List, length, Option, Some, None, option_and_then, option_map, ⊤}
use Rattle.json.specs.Token.{Token}
use Rattle.json.specs.Json as json
use Rattle.serde_json.specs.Data.{Data, Items, Members, no_members}
use Rattle.serde_json.specs.View.{items_of}
use Rattle.serde_json.specs.Read.{converted, max_depth, of_json, of_items, of_members}
use Rattle.json_bodies.specs.declared.walk.Stop.{Stop}
use Rattle.json_bodies.specs.declared.walk.Stop.TheVariants.{NoJson, Memory}

-- the value that the tokens begin with, nested no deeper than this, and what follows it
abbrev pub valued : ℕ → List Token → Option (Data × List Token)
valued depth ts = converted of_json (json.value depth ts)

-- the items up to the bracket that closes their array, and what follows it
abbrev pub itemed : ℕ → ℕ → List Token → Option (Items × List Token)
itemed depth n ts = converted of_items (json.items (json.value depth) n ts)

-- the members up to the brace that closes their object, put to those before them
abbrev pub membered : ℕ → Members → ℕ → List Token → Option (Members × List Token)
membered depth before n ts = converted (λ ms. of_members ms before) (json.members (json.value depth) n ts)

abbrev pub rest_of : {A : Type 0} → Option (A × List Token) → Option (List Token)
rest_of read = option_map (λ p. p.1) read

-- the tokens begin with a value that P holds of, and these follow it
pub record Reads (P : Data → Type 0) (depth : ℕ) (old new : List Token) : Type 0 where
  pub value : Data
  pub read : valued depth old ≡ Some (value, new)
  pub said : P value

-- the same of the items of an array and its bracket, and of the members of an object and its brace
pub record ReadsItems (P : List Data → Type 0) (depth : ℕ) (old new : List Token) : Type 0 where
  pub values : List Data
  pub read : itemed depth (length old) old ≡ Some (items_of values, new)
  pub said : P values

pub record ReadsMembers (P : Members → Type 0) (depth : ℕ) (old new : List Token) : Type 0 where
  pub members : Members
  pub read : membered depth no_members (length old) old ≡ Some (members, new)
  pub said : P members

-- unless memory ran out
abbrev pub IfNoJson : Type 0 → Stop → Type 0
IfNoJson P NoJson = P
IfNoJson P Memory = ⊤

-- the text of a token that is one
abbrev pub token_text : Token → Option (List ℕ)
token_text Token.begin_object = None
token_text Token.end_object = None
token_text Token.begin_array = None
token_text Token.end_array = None
token_text (Token.key s) = None
token_text (Token.string s) = Some s
token_text (Token.number s) = None
token_text (Token.boolean b) = None
token_text Token.null = None
token_text Token.bad = None

abbrev pub token_number : Token → Option (List ℕ)
token_number Token.begin_object = None
token_number Token.end_object = None
token_number Token.begin_array = None
token_number Token.end_array = None
token_number (Token.key s) = None
token_number (Token.string s) = None
token_number (Token.number s) = Some s
token_number (Token.boolean b) = None
token_number Token.null = None
token_number Token.bad = None

-- the value that all tokens of a text are
abbrev pub whole : List Token → Option Data
whole ts = option_and_then of_json (option_and_then (λ p. json.if_last p.0 p.1) (json.value max_depth ts))
