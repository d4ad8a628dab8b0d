-- The members of a profile that others name: by their id, or by their place in the table of texts.
use Rattle.std.specs.Prelude.{◌==◌, ℕ, ℤ, pos, negsuc, Bool, false, List, [], length, nat_lt, find, slice_get, unwrap_or, Option}
use Rattle.pprof_message.specs.declared.lists.Function.{Function}
use Rattle.pprof_message.specs.Pprof.{Location, Pprof}

-- the function with this id
abbrev pub function_with : Pprof → ℕ → Option Function
function_with pprof id = find (λ function. function.id == id) pprof.functions

-- the location with this id
abbrev pub location_with : Pprof → ℕ → Option Location
location_with pprof id = find (λ location. location.id == id) pprof.locations

-- a place is one of the texts
abbrev pub has_text : List (List ℕ) → ℤ → Bool
has_text texts (pos n) = nat_lt n (length texts)
has_text texts (negsuc n) = false

abbrev pub text_at : List (List ℕ) → ℤ → List ℕ
text_at texts (pos n) = unwrap_or (slice_get texts n) []
text_at texts (negsuc n) = []
