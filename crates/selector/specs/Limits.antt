-- The limits of selectors.
use Rattle.std.specs.Prelude.{ℕ}

-- how many matchers a selector may have
abbrev pub most_matchers : ℕ
most_matchers = 16

-- how many bytes the patterns of a request may have together
abbrev pub most_pattern_bytes : ℕ
most_pattern_bytes = 65536

-- how many bytes regex may take for the tables of what it builds of a pattern, but for a few
abbrev pub most_pattern_size : ℕ
most_pattern_size = 1048576
