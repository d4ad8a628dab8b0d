-- A series' name read byte by byte: what the next byte may be.
use Rattle.std.specs.Prelude.{◌==◌, ◌||◌, ℕ, ◌+◌, Bool, true, false, List, [], ◌∷◌, fold, map, nat_lt, Option, Some, None, if◌then◌else◌}
use Rattle.std.specs.List.{after_first, before_first, slice_split}
use Rattle.query_parameters.specs.SeriesNames.{most_service_bytes}
use Rattle.query_parameters.specs.declared.scan.Part.{Part}
use Rattle.query_parameters.specs.declared.scan.Part.TheVariants.{Service, Open, Key, Value, End}

abbrev pub after_service : ℕ → ℕ → Option Part
after_service size b =
    if b == 123 then (if nat_lt 0 size then Some Open else None)
    else (if nat_lt size most_service_bytes then Some (Service (size + 1)) else None)

abbrev pub after_key : ℕ → Option Part
after_key b = if b == 61 then Some Value else (if b == 44 || b == 125 then None else Some Key)

abbrev pub after_value : ℕ → Option Part
after_value b = if b == 44 then Some Key else (if b == 125 then Some End else Some Value)

-- what follows a byte, if some name goes on with it
abbrev pub next_part : Part → ℕ → Option Part
next_part (Service size) b = after_service size b
next_part Open b = if b == 125 then Some End else after_key b
next_part Key b = after_key b
next_part Value b = after_value b
next_part End b = None

-- what follows some bytes
abbrev pub then_byte : Option Part → ℕ → Option Part
then_byte None b = None
then_byte (Some part) b = next_part part b

abbrev pub scan : Option Part → List ℕ → Option Part
scan part bytes = fold then_byte part bytes

-- a text may end here
abbrev pub is_whole : Part → Bool
is_whole (Service size) = nat_lt 0 size
is_whole Open = false
is_whole Key = false
is_whole Value = false
is_whole End = true

abbrev pub ends_whole : Option Part → Bool
ends_whole None = false
ends_whole (Some part) = is_whole part

abbrev pub start : Option Part
start = Some (Service 0)

-- ---- a name that is whole, cut at its marks

-- what stands before the first `=`, and what follows it
abbrev pub split_pair : List ℕ → List ℕ × List ℕ
split_pair piece = (before_first (λ b. b == 61) piece, after_first (λ b. b == 61) piece)

-- the pairs of what stands between the braces
abbrev pub split_pairs : List ℕ → List (List ℕ × List ℕ)
split_pairs [] = []
split_pairs (b ∷ body) = map split_pair (slice_split (λ c. c == 44) (b ∷ body))
