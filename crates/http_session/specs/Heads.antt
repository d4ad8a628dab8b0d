-- The head at the front of some bytes (RFC 9112, sections 2 to 5), and its headers by name.
use Rattle.std.specs.Prelude.{ℕ, ◌+◌, ◌<◌, ◌≤◌, ◌==◌, ◌||◌, ◌⊎◌, Bool, List, [], ◌∷◌, map, filter, length, take, Option, Some, None, if◌then◌else◌, nat_eq}
use Rattle.std.specs.Char.{to_ascii_lowercase}
use Rattle.std.specs.Cmp.Lexicographic.{pointwise}
use Rattle.httparse.specs.Ascii.{line_feed, carriage_return}
use Rattle.httparse.specs.Grammar.{RequestHead, print_request, ReadsRequest, HasNoRequest, MayBecomeRequest}
use Rattle.httparse.specs.Spans.{name_and_value}
use Rattle.http_session.specs.Limits.{most_head_bytes, most_head_lines, most_headers}

-- the bytes begin with this head, within its limits, and then the rest comes
pub record BeginsWithHead (bytes : List ℕ) (head : RequestHead) (rest : List ℕ) : Type 0 where
  pub reads : ReadsRequest bytes head rest
  pub few : length head.fields ≤ most_headers
  pub short : length (print_request head) ≤ most_head_bytes

-- CR or LF
abbrev pub is_line_byte : ℕ → Bool
is_line_byte b = b == carriage_return || b == line_feed

-- the bytes after the leading CR and LF bytes
abbrev pub after_lines : List ℕ → List ℕ
after_lines [] = []
after_lines (b ∷ bytes) = if is_line_byte b then after_lines bytes else b ∷ bytes

-- how many newline bytes there are
abbrev pub newlines : List ℕ → ℕ
newlines [] = 0
newlines (b ∷ bytes) = (if b == line_feed then 1 else 0) + newlines bytes

-- No whole head in as many bytes as one may have, leading CR and LF bytes counted; or as many newline bytes after
-- these as one may have lines, and no head of so few headers.
abbrev pub IsHeadTooLarge : List ℕ → Type 0
IsHeadTooLarge bytes =
    ((most_head_bytes ≤ length bytes) × HasNoRequest (take most_head_bytes bytes))
    ⊎ ((most_head_lines ≤ newlines (after_lines bytes))
    × ((head : RequestHead) (rest : List ℕ) → ReadsRequest bytes head rest → most_headers < length head.fields))

-- the head is still being read: no prefix is one, more bytes can make one, and no limit is met
pub record IsUnfinished (bytes : List ℕ) : Type 0 where
  pub none : HasNoRequest bytes
  pub may : MayBecomeRequest bytes
  pub short : length bytes < most_head_bytes
  pub few : newlines (after_lines bytes) < most_head_lines

-- two texts are the same, without case
abbrev pub is_same_text : List ℕ → List ℕ → Bool
is_same_text a b = pointwise nat_eq (map to_ascii_lowercase a) (map to_ascii_lowercase b)

-- the names and values of a head's headers, a value without the white space around it
abbrev pub headers_of : RequestHead → List (List ℕ × List ℕ)
headers_of head = map name_and_value head.fields

-- the values of the headers that have the name, without case
abbrev pub all_named : List ℕ → List (List ℕ × List ℕ) → List (List ℕ)
all_named name headers = map (λ h. h.1) (filter (λ h. is_same_text h.0 name) headers)

-- the first value of a list
abbrev pub first_of : List (List ℕ) → Option (List ℕ)
first_of [] = None
first_of (value ∷ values) = Some value

-- the value of the first header that has the name
abbrev pub first_named : List ℕ → List (List ℕ × List ℕ) → Option (List ℕ)
first_named name headers = first_of (all_named name headers)
