-- Times as parameters give them, in milliseconds since 1970.
use Rattle.std.specs.Prelude.{◌==◌, ℕ, ◌-◌, ◌*◌, ◌/◌, List, length, take, drop, codes, nat_eq, nat_le, slice_index, Option, Some, None, option_map, option_and_then, if◌then◌else◌}
use Rattle.std.specs.Cmp.Lexicographic.{pointwise}
use Rattle.std.specs.List.{starts_with}
use Rattle.wire_forms.specs.Digits.{number_of}

-- the last millisecond of the year 9999
abbrev pub last_ms : ℕ
last_ms = 253402300799999

-- The milliseconds of a number by the count of its digits: 1 to 10 are seconds, 11 to 13 milliseconds,
-- 14 to 16 microseconds and 17 to 19 nanoseconds, rounded down.
abbrev pub in_ms : ℕ → ℕ → ℕ
in_ms count number =
    if nat_le count 10 then number * 1000
    else (if nat_le count 13 then number else (if nat_le count 16 then number / 1000 else number / 1000000))

-- a time of digits alone
abbrev pub moment_of : List ℕ → Option ℕ
moment_of text = option_map (in_ms (length text)) (number_of 19 text)

-- the milliseconds of `s`, `m`, `h` and `d`
abbrev pub unit_of : ℕ → Option ℕ
unit_of b =
    if b == 115 then Some 1000
    else (if b == 109 then Some 60000 else (if b == 104 then Some 3600000 else (if b == 100 then Some 86400000 else None)))

-- a span: 1 to 9 digits, and the unit as the last byte
abbrev pub span_of : List ℕ → Option ℕ
span_of text =
    let size = length text - 1 in
    option_and_then (λ count. option_map (λ unit. count * unit) (unit_of (slice_index text size))) (number_of 9 (take size text))

-- a time: `now`, `now-` and a span, 0 where that would be below 0, or digits
abbrev pub time_of : List ℕ → ℕ → Option ℕ
time_of text now =
    if pointwise nat_eq text (codes "now") then Some now
    else (if starts_with nat_eq text (codes "now-") then option_map (λ span. now - span) (span_of (drop 4 text)) else moment_of text)
