-- The requests of a connection's bytes, one after another, and how they end.
use Rattle.std.specs.Prelude.{◌≡◌, ◌≢◌, ℕ, ◌+◌, ◌⊎◌, Bool, true, false, List, [], ◌∷◌, Ok, Err}
use Rattle.httparse.specs.Grammar.{RequestHead, NeverHasRequest}
use Rattle.http_session.specs.Heads.{BeginsWithHead, IsHeadTooLarge, IsUnfinished, after_lines, headers_of}
use Rattle.http_session.specs.Framing.{Framing, framing_of, IsBody, IsCutBody}
use Rattle.http_session.specs.Asked.{Asked, asked_of}
use Rattle.http_session.specs.declared.bad_request.BadRequest.{BadRequest}
use Rattle.http_session.specs.declared.bad_request.BadRequest.TheVariants.{Malformed, HeadTooLarge, BodyTooLarge, Chunked, CutOff}

-- the bytes are this whole request, which is the one of that number on its connection, and then the rest
abbrev pub IsWhole : ℕ → ℕ → List ℕ → Asked → List ℕ → Type 0
IsWhole number moment bytes asked rest =
    (head : RequestHead) × (framing : Framing) × (body : List ℕ) × (after : List ℕ)
    × BeginsWithHead bytes head after
    × (framing_of (headers_of head) ≡ Ok framing) × IsBody framing after body rest
    × (asked ≡ asked_of number moment head body)

-- the bytes begin with a head whose headers say no body's framing, for this reason
abbrev pub HasBadLength : List ℕ → BadRequest → Type 0
HasBadLength bytes bad =
    (head : RequestHead) × (rest : List ℕ) × BeginsWithHead bytes head rest × (framing_of (headers_of head) ≡ Err bad)

-- only CR and LF bytes, if any, of which no limit holds
abbrev pub IsBetween : List ℕ → Type 0
IsBetween bytes = (after_lines bytes ≡ []) × IsUnfinished bytes

-- the bytes are no whole request yet: a head that isn't finished, perhaps not begun, or a body that isn't
abbrev pub IsPartial : List ℕ → Type 0
IsPartial bytes =
    IsUnfinished bytes
    ⊎ ((head : RequestHead) × (rest : List ℕ) × (framing : Framing) × BeginsWithHead bytes head rest
    × (framing_of (headers_of head) ≡ Ok framing) × IsCutBody framing rest)

-- a head that is begun and isn't finished, or a body that isn't
abbrev pub IsInside : List ℕ → Type 0
IsInside bytes =
    ((after_lines bytes ≢ []) × IsUnfinished bytes)
    ⊎ ((head : RequestHead) × (rest : List ℕ) × (framing : Framing) × BeginsWithHead bytes head rest
    × (framing_of (headers_of head) ≡ Ok framing) × IsCutBody framing rest)

-- Why the bytes begin with no request that is served. Cut off is what the bytes are where no more come.
abbrev pub IsBad : List ℕ → BadRequest → Type 0
IsBad bytes Malformed = NeverHasRequest bytes ⊎ HasBadLength bytes Malformed
IsBad bytes HeadTooLarge = IsHeadTooLarge bytes
IsBad bytes BodyTooLarge = HasBadLength bytes BodyTooLarge
IsBad bytes Chunked = HasBadLength bytes Chunked
IsBad bytes CutOff = IsInside bytes

-- how the requests of a connection end
pub data Ending : Type 0 where
  -- the bytes end between requests
  done : Ending
  -- the last request asks for closing, and what follows it is free
  closing : Ending
  -- no further request is served, for this reason
  bad : BadRequest → Ending

-- From request `number` on the bytes are these whole requests, one after another, and then the rest. None
-- follows one that asks for closing.
abbrev pub AreRequests : ℕ → ℕ → List ℕ → List Asked → List ℕ → Type 0
AreRequests number moment bytes [] rest = rest ≡ bytes
AreRequests number moment bytes (asked ∷ more) rest =
    (after : List ℕ) × IsWhole number moment bytes asked after × (asked.close ≡ true → more ≡ []) × AreRequests (number + 1) moment after more rest

-- the last of the requests asks for closing
abbrev pub is_closed : List Asked → Bool
is_closed [] = false
is_closed (asked ∷ []) = asked.close
is_closed (asked ∷ next ∷ more) = is_closed (next ∷ more)

-- behind these requests the rest of the bytes ends so: after one that asks for closing it is free, else it has no
-- further request
abbrev pub EndsAs : List Asked → List ℕ → Ending → Type 0
EndsAs requests rest done = (is_closed requests ≡ false) × IsBetween rest
EndsAs requests rest closing = is_closed requests ≡ true
EndsAs requests rest (bad reason) = (is_closed requests ≡ false) × IsBad rest reason

-- from request `number` on the bytes are these requests, and end so
abbrev pub TakesFrom : ℕ → ℕ → List ℕ → List Asked → Ending → Type 0
TakesFrom number moment bytes requests ending =
    (rest : List ℕ) × AreRequests number moment bytes requests rest × EndsAs requests rest ending

-- an ending that is known only where no more bytes come
abbrev pub IsAtEnd : Ending → Type 0
IsAtEnd ending = (ending ≡ done) ⊎ (ending ≡ bad CutOff)

-- the whole requests of a connection's bytes with their ending
abbrev pub Takes : ℕ → List ℕ → List Asked → Ending → Type 0
Takes moment bytes requests ending = TakesFrom 1 moment bytes requests ending
