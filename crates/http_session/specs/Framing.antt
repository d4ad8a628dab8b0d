-- How long a request's body is, and whether its connection closes after it (RFC 9112, sections 6 and 9.6).
use Rattle.std.specs.Prelude.{◌≡◌, ℕ, ◌<◌, ◌++◌, ◌==◌, ◌||◌, Bool, List, [], ◌∷◌, length, nat_le, Option, Some, None, Result, Ok, Err, if◌then◌else◌, codes, nat_eq}
use Rattle.std.specs.Cmp.Lexicographic.{pointwise}
use Rattle.std.specs.List.{list_any, slice_split}
use Rattle.httparse.specs.Ascii.{comma}
use Rattle.httparse.specs.Grammar.{RequestHead, trim_ows}
use Rattle.wire_forms.specs.Digits.{number_of}
use Rattle.http_session.specs.Limits.{most_body_bytes, most_requests}
use Rattle.http_session.specs.Heads.{is_same_text, headers_of, all_named, first_named}
use Rattle.http_session.specs.declared.bad_request.BadRequest.{BadRequest}
use Rattle.http_session.specs.declared.bad_request.BadRequest.TheVariants.{Malformed, BodyTooLarge, Chunked}

-- the number of a Content-Length as a length, where it is no greater than a body's may be
abbrev pub length_of : Option ℕ → Result ℕ BadRequest
length_of None = Err Malformed
length_of (Some number) = if nat_le number most_body_bytes then Ok number else Err BodyTooLarge

-- the length that a Content-Length says, in 1 to 19 digits
abbrev pub length_in : List ℕ → Result ℕ BadRequest
length_in text = length_of (number_of 19 text)

-- The body's length, by the first Transfer-Encoding and all of Content-Length. Of several faults that of
-- the form comes before that of the size.
abbrev pub length_by : Option (List ℕ) → List (List ℕ) → Result ℕ BadRequest
length_by None [] = Ok 0
length_by None (text ∷ []) = length_in text
length_by None (text ∷ other ∷ more) = Err Malformed
length_by (Some coding) [] = if is_same_text coding (codes "chunked") then Err Chunked else Err Malformed
length_by (Some coding) (text ∷ more) = Err Malformed

abbrev pub body_length_of : List (List ℕ × List ℕ) → Result ℕ BadRequest
body_length_of headers = length_by (first_named (codes "transfer-encoding") headers) (all_named (codes "content-length") headers)

-- f of what is answered; a fault stays
abbrev pub result_map : {A B E : Type 0} → (A → B) → Result A E → Result B E
result_map f (Ok answer) = Ok (f answer)
result_map f (Err fault) = Err fault

-- how the bytes of a body are told from those behind it
pub data Framing : Type 0 where
  -- there are so many of them
  sized : ℕ → Framing

abbrev pub framing_of : List (List ℕ × List ℕ) → Result Framing BadRequest
framing_of headers = result_map sized (body_length_of headers)

-- the bytes are this body, and then the rest
abbrev pub IsBody : Framing → List ℕ → List ℕ → List ℕ → Type 0
IsBody (sized size) bytes body rest = (length body ≡ size) × (bytes ≡ body ++ rest)

-- the bytes are the beginning of a body, and not all of it
abbrev pub IsCutBody : Framing → List ℕ → Type 0
IsCutBody (sized size) bytes = length bytes < size

-- a member of Connection is `close`, spaces and tabs around it left out
abbrev pub is_close : List ℕ → Bool
is_close member = is_same_text (trim_ows member) (codes "close")

-- a value of Connection, split at its commas, has such a member
abbrev pub has_close : List ℕ → Bool
has_close value = list_any is_close (slice_split (λ b. b == comma) value)

-- The connection closes after this request: a Connection header says so, the version is 1.0, the method
-- is HEAD, or it is the last request that its connection may have.
abbrev pub closes : ℕ → RequestHead → Bool
closes number head =
    list_any has_close (all_named (codes "connection") (headers_of head))
    || head.minor == 0
    || pointwise nat_eq head.method (codes "HEAD")
    || nat_le most_requests number
