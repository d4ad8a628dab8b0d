-- The steps in which the reader takes a request: its head, its body, and the rest of that.
use Rattle.std.specs.Prelude.{◌≡◌, ℕ, ◌<◌, List, [], ◌++◌, length, Result, Ok, Err, IfErr, Bool, true}
use Rattle.link_trait.specs.Link.{Told, Took, Rose}
use Rattle.http_session.specs.Pulled.{Pulled}
use Rattle.httparse.specs.Grammar.{RequestHead}
use Rattle.http_session.specs.Heads.{BeginsWithHead}
use Rattle.http_session.specs.Asked.{Asked}
use Rattle.http_session.specs.Takes.{IsWhole, IsPartial}
use Rattle.http_session.specs.NextRequests.{IsBadAt, IsEndAt}
use Rattle.http_session.specs.declared.bad_request.BadRequest.TheVariants.{CutOff}
use Rattle.http_session.specs.declared.reader.Stop.{Stop}
use Rattle.http_session.specs.declared.reader.Stop.TheVariants as stop

-- a link's fault is told with its count, which rose
abbrev pub IsFaultOf : ℕ → ℕ → Stop → Type 0
IsFaultOf before now stop.End = Unit {0}
IsFaultOf before now (stop.Bad bad) = Unit {0}
IsFaultOf before now (stop.LinkFault count) = Rose before now × (count ≡ now)
IsFaultOf before now stop.Memory = Unit {0}

-- and any other stop leaves the count
abbrev pub IsQuiet : ℕ → ℕ → Stop → Type 0
IsQuiet before now stop.End = now ≡ before
IsQuiet before now (stop.Bad bad) = now ≡ before
IsQuiet before now (stop.LinkFault count) = Unit {0}
IsQuiet before now stop.Memory = now ≡ before

-- and, but for a fault, the link is open
abbrev pub IsOpenAfter : Bool → Stop → Type 0
IsOpenAfter is_open stop.End = is_open ≡ true
IsOpenAfter is_open (stop.Bad bad) = is_open ≡ true
IsOpenAfter is_open (stop.LinkFault count) = Unit {0}
IsOpenAfter is_open stop.Memory = is_open ≡ true

-- Why no request was taken from the bytes that came.
abbrev pub StopsAt : List ℕ → Told → Stop → Type 0
StopsAt bytes now stop.End = IsEndAt bytes now
StopsAt bytes now (stop.Bad bad) = IsBadAt bytes now bad
StopsAt bytes now (stop.LinkFault count) = IsPartial bytes
StopsAt bytes now stop.Memory = (head : RequestHead) × (rest : List ℕ) × BeginsWithHead bytes head rest

-- the taking of a head leaves all that came in the buffer
abbrev pub HeadStep : {T : Type 0} → Result T Stop → List ℕ → List ℕ → Told → Told → Type 0
HeadStep result old new before now = Pulled old new before now × IfErr result (StopsAt new now)

-- what the taking of a body of some size, whose bytes are shown by view, made of the bytes that were held and came
abbrev pub IsBodyOf : {T : Type 0} → (T → List ℕ) → ℕ → List ℕ → List ℕ → Told → Result T Stop → Type 0
IsBodyOf view size bytes new now (Ok body) = (bytes ≡ view body ++ new) × (length (view body) ≡ size)
IsBodyOf view size bytes new now (Err stop.End) = ⊥
IsBodyOf view size bytes new now (Err (stop.Bad bad)) = (bad ≡ CutOff) × (length bytes < size) × (now.to_come ≡ [])
IsBodyOf view size bytes new now (Err (stop.LinkFault count)) = length bytes < size
IsBodyOf view size bytes new now (Err stop.Memory) = Unit {0}

-- the taking of a body
abbrev pub BodyStep : {T : Type 0} → (T → List ℕ) → ℕ → Result T Stop → List ℕ → List ℕ → Told → Told → Type 0
BodyStep view size result old new before now =
    (piece : List ℕ) × Took piece before now × IsBodyOf view size (old ++ piece) new now result

-- what came for the rest of a body: all of it, or less where no more comes or the link failed
abbrev pub IsRestOf : {T : Type 0} → Result T Stop → List ℕ → List ℕ → Told → Type 0
IsRestOf (Ok done) piece rest now = piece ≡ rest
IsRestOf (Err stop.End) piece rest now = ⊥
IsRestOf (Err (stop.Bad bad)) piece rest now = (bad ≡ CutOff) × (length piece < length rest) × (now.to_come ≡ [])
IsRestOf (Err (stop.LinkFault count)) piece rest now = length piece < length rest
IsRestOf (Err stop.Memory) piece rest now = ⊥

-- the taking of the rest of a body
abbrev pub RestStep : {T : Type 0} → Result T Stop → List ℕ → Told → Told → Type 0
RestStep result rest before now = (piece : List ℕ) × Took piece before now × IsRestOf result piece rest now

-- what the taking of a request of some number made of the bytes that were held and came
abbrev pub IsRequestOf : ℕ → ℕ → List ℕ → List ℕ → Told → Result Asked Stop → Type 0
IsRequestOf number moment bytes new now (Ok request) = IsWhole number moment bytes request new
IsRequestOf number moment bytes new now (Err stop) = StopsAt bytes now stop

-- the taking of a request
abbrev pub RequestStep : ℕ → Result Asked Stop → List ℕ → List ℕ → Told → Told → Type 0
RequestStep number result old new before now =
    (piece : List ℕ) × Took piece before now × IsRequestOf number before.moment (old ++ piece) new now result
