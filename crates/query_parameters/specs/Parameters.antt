-- The parameters of a query string.
use Rattle.std.specs.Prelude.{ℕ, List, map, nat_eq, Option}
use Rattle.std.specs.Cmp.Lexicographic.{pointwise}
use Rattle.std.specs.Map.{lookup}
use Rattle.std.specs.String.{string_bytes}
use Rattle.std.specs.Str.Lossy.{utf8_lossy}
use Rattle.form_urlencoded.specs.Form.{raw_pairs, decode}
use Rattle.query_parameters.specs.declared.parameters.Parameter.{Parameter}

-- a name or a value as a form spells it, with U+FFFD for what is no UTF-8 (WHATWG URL, section 5.1)
abbrev pub decoded : List ℕ → List ℕ
decoded bytes = utf8_lossy (decode bytes)

abbrev pub decoded_pair : List ℕ × List ℕ → List ℕ × List ℕ
decoded_pair pair = (decoded pair.0, decoded pair.1)

-- the parameters of a query, in order
abbrev pub parameters_of : List ℕ → List (List ℕ × List ℕ)
parameters_of query = map decoded_pair (raw_pairs query)

-- parameters as they are kept
abbrev pub pair_of : Parameter → List ℕ × List ℕ
pair_of parameter = (string_bytes parameter.name, string_bytes parameter.value)

abbrev pub pairs_of : List Parameter → List (List ℕ × List ℕ)
pairs_of parameters = map pair_of parameters

-- the value of a name: of a repeated one the first
abbrev pub value_of : List (List ℕ × List ℕ) → List ℕ → Option (List ℕ)
value_of pairs name = lookup (pointwise nat_eq name) pairs
