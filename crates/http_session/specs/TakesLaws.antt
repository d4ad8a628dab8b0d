-- What holds of every reading of a connection's bytes.
use Rattle.std.specs.Prelude.{◌≡◌, ℕ, List, [], ◌++◌}
use Rattle.http_session.specs.Asked.{Asked}
use Rattle.link_trait.specs.Link.{Told}
use Rattle.http_session.specs.Takes.{IsWhole, IsBetween, IsBad, IsAtEnd, Ending, done, closing, bad, TakesFrom}
use Rattle.http_session.specs.declared.bad_request.BadRequest.{BadRequest}
use Rattle.http_session.specs.declared.bad_request.BadRequest.TheVariants.{Malformed, HeadTooLarge, CutOff}
use Rattle.http_session.specs.Progress.{Progress}
use Rattle.http_session.specs.NextRequests.{NextStep}
use Rattle.http_session.specs.declared.reader.NextRequest.TheVariants.{Request, End, Bad}

-- a whole request stays the same where more bytes come, which are then behind its rest
abbrev pub WholeStays : Type 0
WholeStays =
    (number moment : ℕ) (bytes more rest : List ℕ) (asked : Asked)
    → IsWhole number moment bytes asked rest → IsWhole number moment (bytes ++ more) asked (rest ++ more)

-- the bytes begin with at most one whole request, and have one rest
abbrev pub WholeIsOne : Type 0
WholeIsOne =
    (number moment : ℕ) (bytes rest left : List ℕ) (asked other : Asked)
    → IsWhole number moment bytes asked rest → IsWhole number moment bytes other left → (asked ≡ other) × (rest ≡ left)

-- the bytes have one list of whole requests
abbrev pub RequestsAreOne : Type 0
RequestsAreOne =
    (number moment : ℕ) (bytes : List ℕ) (requests others : List Asked) (ending last : Ending)
    → TakesFrom number moment bytes requests ending → TakesFrom number moment bytes others last → requests ≡ others

-- The two faults that may stand together with `Malformed`: a refused head that is too long as well, and a
-- target that breaks off inside a character, which is refused only once its end has come.
abbrev pub MayStandTogether : BadRequest → BadRequest → Type 0
MayStandTogether Malformed HeadTooLarge = Unit {0}
MayStandTogether HeadTooLarge Malformed = Unit {0}
MayStandTogether Malformed CutOff = Unit {0}
MayStandTogether CutOff Malformed = Unit {0}
MayStandTogether one other = one ≡ other

-- two endings of the same bytes
abbrev pub Agree : Ending → Ending → Type 0
Agree done done = Unit {0}
Agree closing closing = Unit {0}
Agree (bad one) (bad other) = MayStandTogether one other
Agree one other = ⊥

-- and the list has one ending
abbrev pub EndingsAgree : Type 0
EndingsAgree =
    (number moment : ℕ) (bytes : List ℕ) (requests others : List Asked) (ending last : Ending)
    → TakesFrom number moment bytes requests ending → TakesFrom number moment bytes others last → Agree ending last

-- So it doesn't matter how much of the bytes has come: what they take stays the same where more come, but for an
-- ending that is known only where no more do.
abbrev pub TakesStay : Type 0
TakesStay =
    (number moment : ℕ) (bytes more : List ℕ) (requests : List Asked) (ending : Ending)
    → TakesFrom number moment bytes requests ending → (IsAtEnd ending → more ≡ []) → TakesFrom number moment (bytes ++ more) requests ending

-- The request that a reader gives is the whole request of the bytes held and all of the input still to
-- come, and what is then held and still to come is its rest, however the link cuts its input.
abbrev pub TakenOfAll : Type 0
TakenOfAll =
    (old new : Progress) (before now : Told) (asked : Asked)
    → NextStep (Request asked) old new before now
    → IsWhole new.given before.moment (old.held ++ before.to_come) asked (new.held ++ now.to_come)

-- And so are the end of the input and the reason why it is no request, which are those of all of it.
abbrev pub EndedOfAll : Type 0
EndedOfAll =
    (old new : Progress) (before now : Told)
    → NextStep End old new before now → IsBetween (old.held ++ before.to_come)

abbrev pub RefusedOfAll : Type 0
RefusedOfAll =
    (old new : Progress) (before now : Told) (reason : BadRequest)
    → NextStep (Bad reason) old new before now → IsBad (old.held ++ before.to_come) reason
