-- What a reader's next request, or what comes in its place, says of its link, and of the bytes that came.
use Rattle.std.specs.Prelude.{◌≡◌, ℕ, ◌+◌, min, List, [], ◌++◌, ◌⊎◌, Bool, true, false}
use Rattle.link_trait.specs.Link.{Told, Took}
use Rattle.http_session.specs.Takes.{IsWhole, IsBad, IsBetween, IsPartial}
use Rattle.httparse.specs.Grammar.{RequestHead}
use Rattle.http_session.specs.Limits.{most_requests}
use Rattle.http_session.specs.Heads.{BeginsWithHead}
use Rattle.http_session.specs.Progress.{Progress}
use Rattle.http_session.specs.declared.bad_request.BadRequest.{BadRequest}
use Rattle.http_session.specs.declared.bad_request.BadRequest.TheVariants.{CutOff}
use Rattle.http_session.specs.declared.reader.NextRequest.{NextRequest}
use Rattle.http_session.specs.declared.reader.NextRequest.TheVariants as came

-- after a request the reader is one request further; after anything else it has ended
abbrev pub Continues : NextRequest → Progress → Progress → Type 0
Continues (came.Request request) old new = (new.ended ≡ false) × (new.given ≡ min (old.given + 1) most_requests)
Continues came.End old new = new.ended ≡ true
Continues (came.Bad bad) old new = new.ended ≡ true
Continues (came.LinkFault count) old new = new.ended ≡ true
Continues came.Memory old new = new.ended ≡ true

-- but for a fault, the link is open
abbrev pub StaysOpen : Bool → NextRequest → Type 0
StaysOpen is_open (came.Request request) = is_open ≡ true
StaysOpen is_open came.End = is_open ≡ true
StaysOpen is_open (came.Bad bad) = is_open ≡ true
StaysOpen is_open (came.LinkFault count) = Unit {0}
StaysOpen is_open came.Memory = is_open ≡ true

-- Bytes that came are bad for this reason. They are cut off only where no more come.
abbrev pub IsBadAt : List ℕ → Told → BadRequest → Type 0
IsBadAt bytes now bad = IsBad bytes bad × (bad ≡ CutOff → now.to_come ≡ [])

-- the bytes that came end between requests, and no more come
abbrev pub IsEndAt : List ℕ → Told → Type 0
IsEndAt bytes now = IsBetween bytes × (now.to_come ≡ [])

-- Memory ran out behind so many requests: before the first of them, and no byte came yet; or behind a head.
abbrev pub IsStarvedAt : ℕ → List ℕ → Type 0
IsStarvedAt given bytes = ((given ≡ 0) × (bytes ≡ [])) ⊎ ((head : RequestHead) × (rest : List ℕ) × BeginsWithHead bytes head rest)

-- What comes next says of the bytes that were held and came since, behind so many requests: they are the request of
-- that number at that moment and then what is held; or they end between requests, or are bad; after a fault of the
-- link they are no whole request yet; and where memory ran out a request was begun.
abbrev pub IsNext : ℕ → ℕ → List ℕ → Progress → Told → NextRequest → Type 0
IsNext given moment bytes new now (came.Request request) = IsWhole new.given moment bytes request new.held
IsNext given moment bytes new now came.End = IsEndAt bytes now
IsNext given moment bytes new now (came.Bad bad) = IsBadAt bytes now bad
IsNext given moment bytes new now (came.LinkFault count) = IsPartial bytes
IsNext given moment bytes new now came.Memory = IsStarvedAt given bytes

-- the link took a piece, and this comes next in the bytes that were held and that piece
abbrev pub NextStep : NextRequest → Progress → Progress → Told → Told → Type 0
NextStep result old new before now =
    (piece : List ℕ) × Took piece before now × IsNext old.given before.moment (old.held ++ piece) new now result
