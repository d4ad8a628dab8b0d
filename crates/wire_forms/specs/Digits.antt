-- Numbers of a few decimal digits.
use Rattle.std.specs.Prelude.{◌&&◌, ℕ, Bool, List, length, nat_le, Option, Some, None, if◌then◌else◌}
use Rattle.std.specs.Char.{is_ascii_digit}
use Rattle.std.specs.List.{list_all}
use Rattle.std.specs.Str.Parse.{digits_value}

-- at least one digit and at most so many, and nothing else
abbrev pub are_digits : ℕ → List ℕ → Bool
are_digits most text = nat_le 1 (length text) && nat_le (length text) most && list_all is_ascii_digit text

-- the number that they write, leading zeros or not
abbrev pub number_of : ℕ → List ℕ → Option ℕ
number_of most text = if are_digits most text then Some (digits_value 10 text) else None
