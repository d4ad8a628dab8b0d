-- The limits of a connection and its requests.
use Rattle.std.specs.Prelude.{ℕ}

-- how many headers a head may have
abbrev pub most_headers : ℕ
most_headers = 64

-- how many lines a head may have: that of the request, one for each header, and the empty one
abbrev pub most_head_lines : ℕ
most_head_lines = 66

-- how many bytes a head may have
abbrev pub most_head_bytes : ℕ
most_head_bytes = 16384

-- how many bytes a body may have
abbrev pub most_body_bytes : ℕ
most_body_bytes = 8388608

-- how many requests a connection may have; the last of them closes it
abbrev pub most_requests : ℕ
most_requests = 1000000
