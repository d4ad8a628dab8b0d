-- Points in time at equal distances, and times in milliseconds since 1970.
use Rattle.std.specs.Prelude.{ℕ, ◌+◌, ◌-◌, ◌*◌, ◌<◌, ◌≤◌}
use Rattle.std.specs.Int.{div_ceil}

-- the greatest distance of two points, in seconds: a leap year
abbrev pub most_step : ℕ
most_step = 31622400

-- the last time, at the end of the year 9999
abbrev pub most_time : ℕ
most_time = 253402300799999

-- the distance in milliseconds, of a step in seconds
abbrev pub width_of : ℕ → ℕ
width_of step = step * 1000

-- the first of the points `start`, `start` and a step, `start` and two steps .. that isn't before the time
abbrev pub point_of : ℕ → ℕ → ℕ → ℕ
point_of start step time = start + div_ceil (time - start) (width_of step) * width_of step

-- where the points begin, and how far they are apart
pub record IsGrid (start step : ℕ) : Type 0 where
  pub begins : start ≤ most_time
  pub some : 0 < step
  pub close : step ≤ most_step
