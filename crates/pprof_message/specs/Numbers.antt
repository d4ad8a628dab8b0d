-- The last number of each field, by its number, for the fields below a bound.
use Rattle.std.specs.Prelude.{ℕ, List, [], ◌∷◌, slice_set}
use Rattle.std.specs.Option.{option_map_or}
use Rattle.wire_proto.specs.Message.{WireField}
use Rattle.pprof_message.specs.Fields.{number_in}

-- one more field; a number past the end changes nothing
abbrev pub with_number : List ℕ → WireField → List ℕ
with_number numbers f = option_map_or (λ n. slice_set numbers f.number n) (number_in f.value) numbers

abbrev pub last_numbers : List ℕ → List WireField → List ℕ
last_numbers numbers [] = numbers
last_numbers numbers (f ∷ fs) = last_numbers (with_number numbers f) fs
