-- What serving one request does to a link that tells.
use Rattle.std.specs.Prelude.{◌≡◌, ◌⊎◌, ℕ, ◌+◌, Bool, false, List, [], ◌++◌, length}
use Rattle.link_trait.specs.Link.{Told, Gave, Passed}
use Rattle.http_session.specs.Asked.{Asked}
use Rattle.http_session.specs.Reply.{bytes_of_reply}
use Rattle.http_session.specs.Takes.{IsWhole, is_closed}
use Rattle.http_session.specs.Progress.{Progress}
use Rattle.http_session.specs.declared.reply.Reply.{Reply}
use Rattle.profile_model.specs.declared.push.Push.{Push}
use Rattle.request_meaning.specs.Facts.{Facts}
use Rattle.pyro_server.specs.Given.{EndsSo, IsFrontOf, IsOpen, last_bytes}
use Rattle.pyro_server.specs.Served.{Exchange, IsExchange, InTurn, answers_of}
use Rattle.pyro_server.specs.declared.session.Step.{Step}
use Rattle.pyro_server.specs.declared.session.Step.TheVariants.{Replied, Over}
use Rattle.pyro_server.specs.declared.ending.Ending.{Ending}
use Rattle.pyro_server.specs.declared.ending.Ending.TheVariants.{LinkFault}

-- a front of the bytes was given
abbrev pub GaveFront : List ℕ → Told → Told → Type 0
GaveFront bytes before now = (piece : List ℕ) × (rest : List ℕ) × (bytes ≡ piece ++ rest) × Gave piece before now

-- the reply was given whole, or in part where the link failed
abbrev pub GivesReply : Bool → Reply → Step → Told → Told → Type 0
GivesReply close reply (Replied closes) before now = (closes ≡ close) × Gave (bytes_of_reply reply) before now
GivesReply close reply (Over ending) before now = (ending ≡ LinkFault) × GaveFront (bytes_of_reply reply) before now

-- the last bytes were given whole, and the ending is this one; or in part, where the link failed
abbrev pub GivesBytes : List ℕ → Ending → Ending → Told → Told → Type 0
GivesBytes bytes due ending before now = ((ending ≡ due) × Gave bytes before now) ⊎ ((ending ≡ LinkFault) × GaveFront bytes before now)

-- these are the bytes that the ending gives
abbrev pub GivesLast : Ending → Ending → Told → Told → Type 0
GivesLast due ending before now = GivesBytes (last_bytes due before.moment) due ending before now

-- the connection ends so at these bytes, behind whatever requests, of this number, that don't close it
abbrev pub EndsBehind : ℕ → List ℕ → List ℕ → Ending → Type 0
EndsBehind number bytes to_come ending =
    (requests : List Asked) → is_closed requests ≡ false → length requests ≡ number → EndsSo requests bytes to_come ending

-- no further request is answered from these bytes: what is given is what the ending gives, or a front of what another would
abbrev pub GivesNoMore : ℕ → ℕ → List ℕ → List ℕ → List ℕ → Ending → Type 0
GivesNoMore number moment bytes to_come gave ending =
    (EndsBehind number bytes to_come ending × (gave ≡ last_bytes ending moment))
    ⊎ ((ending ≡ LinkFault) × ((due : Ending) × EndsBehind number bytes to_come due × IsFrontOf gave (last_bytes due moment)))

-- the request of this number has a reply, of which a front was given where the link failed
abbrev pub GivesCut : Facts → ℕ → ℕ → List ℕ → List Push → List ℕ → List Push → Type 0
GivesCut facts number moment bytes history gave next =
    (asked : Asked) × (reply : Reply) × (rest : List ℕ) × IsWhole number moment bytes asked rest
    × IsFrontOf gave (bytes_of_reply reply) × IsExchange facts asked history reply next

-- The link took a piece: with what was held it is the next request, which was answered; or the connection is over.
abbrev pub ServesStep : Facts → Progress → Progress → List Push → List Push → Step → Told → Told → Type 0
ServesStep facts old new history next (Replied close) before now =
    (piece : List ℕ) × (asked : Asked) × (reply : Reply) × Passed piece (bytes_of_reply reply) before now
    × IsWhole new.given before.moment (old.held ++ piece) asked new.held
    × IsExchange facts asked history reply next × (asked.close ≡ close)
ServesStep facts old new history next (Over ending) before now =
    (piece : List ℕ) × (gave : List ℕ) × Passed piece gave before now
    × ((GivesNoMore old.given before.moment (old.held ++ piece) now.to_come gave ending × (next ≡ history))
    ⊎ ((ending ≡ LinkFault) × GivesCut facts (old.given + 1) before.moment (old.held ++ piece) history gave next))

-- what was served so far, from no history: the connection is open, and as many requests were answered as the reader gave
abbrev pub SoFar : Facts → Progress → List Push → Told → Told → Type 0
SoFar facts reader history before now =
    (exchanges : List Exchange) × IsOpen (answers_of exchanges) reader.held before now
    × (length exchanges ≡ reader.given) × InTurn facts [] exchanges history

-- a reply was given, and the connection closes after it or not
abbrev pub IsReplied : Step → Type 0
IsReplied (Replied close) = Unit {0}
IsReplied (Over ending) = ⊥
