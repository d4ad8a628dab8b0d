-- The bytes that one connection gives for the bytes that it takes, and how it ends.
use Rattle.std.specs.Prelude.{◌≡◌, ◌≢◌, ◌⊎◌, ℕ, true, false, List, [], ◌∷◌, ◌++◌, length, map, Option, Some, None}
use Rattle.std.specs.List.{flat_map}
use Rattle.link_trait.specs.Link.{Told, Passed}
use Rattle.http_session.specs.Asked.{Asked}
use Rattle.http_session.specs.Limits.{most_requests}
use Rattle.http_session.specs.Reply.{bytes_of_reply}
use Rattle.http_session.specs.Takes as takes
use Rattle.http_session.specs.Takes.{AreRequests, EndsAs, IsPartial, is_closed}
use Rattle.http_session.specs.NextRequests.{IsStarvedAt}
use Rattle.http_session.specs.declared.bad_request.BadRequest.TheVariants.{CutOff}
use Rattle.http_session.specs.declared.reply.Reply.{Reply}
use Rattle.api_replies.specs.Refusals.{last_reply, reply_for_memory}
use Rattle.pyro_server.specs.declared.ending.Ending.{Ending}
use Rattle.pyro_server.specs.declared.ending.Ending.TheVariants.{Done, Closed, LastRequest, Refused, NoMemory, LinkFault}

-- ---- answers

-- a request and its reply
pub record Answer : Type 0 where
  pub asked : Asked
  pub reply : Reply

abbrev pub requests_of : List Answer → List Asked
requests_of answers = map (λ one. one.asked) answers

-- the bytes of the replies, in order
abbrev pub replies_of : List Answer → List ℕ
replies_of answers = flat_map (λ one. bytes_of_reply one.reply) answers

-- The bytes are the requests of these answers, one after another, and then the rest; and what is given is just the
-- bytes of their replies.
pub record AreAnswered (moment : ℕ) (bytes : List ℕ) (answers : List Answer) (rest gave : List ℕ) : Type 0 where
  pub requests : AreRequests 1 moment bytes (requests_of answers) rest
  pub replies : gave ≡ replies_of answers

-- A connection that is still open, from one state to another: what it took are the requests that were answered, and
-- then the bytes that are held; what it gave are just the replies; and none of the requests closes it.
pub record IsOpen (answers : List Answer) (held : List ℕ) (before now : Told) : Type 0 where
  pub took : List ℕ
  pub gave : List ℕ
  pub passed : Passed took gave before now
  pub answered : AreAnswered before.moment took answers held gave
  pub unclosed : is_closed (requests_of answers) ≡ false

-- ---- endings

-- the bytes of a reply, none where there is none
abbrev pub bytes_of_last : Option Reply → List ℕ
bytes_of_last None = []
bytes_of_last (Some reply) = bytes_of_reply reply

-- what an ending gives behind the replies: why the bytes are no request, or that memory ran out
abbrev pub last_bytes : Ending → ℕ → List ℕ
last_bytes (Refused reason) moment = bytes_of_last (last_reply reason moment)
last_bytes NoMemory moment = bytes_of_reply (reply_for_memory moment true)
last_bytes ending moment = []

-- How it ends behind these requests, where this rest of the bytes that were taken is left, and these are still to
-- come. Where the input ends, between two requests or inside one, none are. Memory runs out before the first byte, or
-- behind a head; and a link that fails while it is read leaves no whole request.
abbrev pub EndsSo : List Asked → List ℕ → List ℕ → Ending → Type 0
EndsSo requests rest to_come Done = EndsAs requests rest takes.done × (to_come ≡ [])
EndsSo requests rest to_come Closed = EndsAs requests rest takes.closing × (length requests ≢ most_requests)
EndsSo requests rest to_come LastRequest = EndsAs requests rest takes.closing × (length requests ≡ most_requests)
EndsSo requests rest to_come (Refused reason) = EndsAs requests rest (takes.bad reason) × (reason ≡ CutOff → to_come ≡ [])
EndsSo requests rest to_come NoMemory = (is_closed requests ≡ false) × IsStarvedAt (length requests) rest
EndsSo requests rest to_come LinkFault = (is_closed requests ≡ false) × IsPartial rest

-- what is given is a front of these bytes
abbrev pub IsFrontOf : List ℕ → List ℕ → Type 0
IsFrontOf gave bytes = (rest : List ℕ) × (bytes ≡ gave ++ rest)

-- every reply was given whole, and then what the ending gives
pub record GivesWhole (moment : ℕ) (bytes to_come : List ℕ) (answers : List Answer) (gave : List ℕ) (ending : Ending) : Type 0 where
  pub rest : List ℕ
  pub requests : AreRequests 1 moment bytes (requests_of answers) rest
  pub ends : EndsSo (requests_of answers) rest to_come ending
  pub given : gave ≡ replies_of answers ++ last_bytes ending moment

-- the link failed in the midst of the last reply, of which a front was given
pub record GivesPart (moment : ℕ) (bytes : List ℕ) (answers : List Answer) (gave : List ℕ) : Type 0 where
  pub whole : List Answer
  pub cut : Answer
  pub are : answers ≡ whole ++ cut ∷ []
  pub rest : List ℕ
  pub requests : AreRequests 1 moment bytes (requests_of answers) rest
  pub front : List ℕ
  pub is_front : IsFrontOf front (bytes_of_reply cut.reply)
  pub given : gave ≡ replies_of whole ++ front

-- the link failed in the midst of what another ending gives
pub record GivesLastPart (moment : ℕ) (bytes to_come : List ℕ) (answers : List Answer) (gave : List ℕ) : Type 0 where
  pub rest : List ℕ
  pub requests : AreRequests 1 moment bytes (requests_of answers) rest
  pub due : Ending
  pub ends : EndsSo (requests_of answers) rest to_come due
  pub front : List ℕ
  pub is_front : IsFrontOf front (last_bytes due moment)
  pub given : gave ≡ replies_of answers ++ front

-- What is given for the bytes taken by a connection that ended so, where these bytes are still to come. Only a fault
-- of the link leaves a reply given in part.
abbrev pub Gives : ℕ → List ℕ → List ℕ → List Answer → List ℕ → Ending → Type 0
Gives moment bytes to_come answers gave ending =
    GivesWhole moment bytes to_come answers gave ending
    ⊎ ((ending ≡ LinkFault) × (GivesPart moment bytes answers gave ⊎ GivesLastPart moment bytes to_come answers gave))

-- a connection that ended so, from one state to another, with these answers
pub record IsEnded (answers : List Answer) (ending : Ending) (before now : Told) : Type 0 where
  pub took : List ℕ
  pub gave : List ℕ
  pub passed : Passed took gave before now
  pub gives : Gives before.moment took now.to_come answers gave ending
