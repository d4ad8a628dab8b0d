-- What a connection that ended says of all of its input.
use Rattle.std.proofs.Common.{◌≡◌, ◌≢◌, ◌∙◌, ℕ, List, [], ◌++◌, sym, ap, subst, inl, inr, ⊎_elim}
use Rattle.std.specs.Prelude.{◌⊎◌, true}
use Rattle.http_session.specs.Takes as takes
use Rattle.http_session.specs.Takes.{AreRequests, IsAtEnd, Takes, is_closed}
use Rattle.http_session.specs.declared.bad_request.BadRequest.{BadRequest}
use Rattle.http_session.specs.declared.bad_request.BadRequest.TheVariants.{CutOff}
use Rattle.http_session.proofs.RequestsLemmas.{requests_stay}
use Rattle.http_session.proofs.StayLemmas.{takes_stay}
use Rattle.pyro_server.specs.Given.{Answer, Gives, GivesWhole, requests_of}
use Rattle.pyro_server.specs.ServedLaws.{AnswersAllInput, AnswersTheFirst, IsEndingOf, ReadsToTheEnd}
use Rattle.pyro_server.specs.Statuses.{status_of}
use Rattle.pyro_server.specs.declared.ending.Ending.{Ending}
use Rattle.pyro_server.specs.declared.ending.Ending.TheVariants.{Done, Closed, LastRequest, Refused, NoMemory, LinkFault}
use Rattle.pyro_server.specs.declared.status.ExitStatus.TheVariants as status

one_reason : (one other : BadRequest) → takes.bad one ≡ takes.bad other → one ≡ other
one_reason one other is = cc

-- what was taken ends so, and more comes only behind an ending that it can't change
taken_ends : (answers : List Answer) (ending : Ending) (how : takes.Ending) (moment : ℕ) (took to_come gave : List ℕ) → GivesWhole moment took to_come answers gave ending
    → IsEndingOf ending how → Takes moment took (requests_of answers) how × (IsAtEnd how → to_come ≡ [])
taken_ends answers Done takes.done moment took to_come gave whole same = ((whole.rest, whole.requests, whole.ends.0), λ at. whole.ends.1)
taken_ends answers Closed takes.closing moment took to_come gave whole same =
    ((whole.rest, whole.requests, whole.ends.0), λ at. ⊎_elim (λ is. cc) (λ is. cc) at)
taken_ends answers LastRequest takes.closing moment took to_come gave whole same =
    ((whole.rest, whole.requests, whole.ends.0), λ at. ⊎_elim (λ is. cc) (λ is. cc) at)
taken_ends answers (Refused reason) (takes.bad other) moment took to_come gave whole same =
    let T : BadRequest → Type 0 = λ r. Takes moment took (requests_of answers) (takes.bad r) in (
      subst T (sym same) (whole.rest, whole.requests, whole.ends.0),
      λ at. ⊎_elim (λ is. cc) (λ is. whole.ends.1 (sym same ∙ one_reason other CutOff is)) at,
    )
taken_ends answers Done takes.closing moment took to_come gave whole same = absurd same
taken_ends answers Done (takes.bad other) moment took to_come gave whole same = absurd same
taken_ends answers Closed takes.done moment took to_come gave whole same = absurd same
taken_ends answers Closed (takes.bad other) moment took to_come gave whole same = absurd same
taken_ends answers LastRequest takes.done moment took to_come gave whole same = absurd same
taken_ends answers LastRequest (takes.bad other) moment took to_come gave whole same = absurd same
taken_ends answers (Refused reason) takes.done moment took to_come gave whole same = absurd same
taken_ends answers (Refused reason) takes.closing moment took to_come gave whole same = absurd same
taken_ends answers NoMemory how moment took to_come gave whole same = absurd same
taken_ends answers LinkFault how moment took to_come gave whole same = absurd same

no_fault : (ending : Ending) (how : takes.Ending) → IsEndingOf ending how → ending ≢ LinkFault
no_fault LinkFault how same = absurd same
no_fault ending how same = λ is. cc

pub answers_all_input : AnswersAllInput
answers_all_input answers ending before now how ended same = by ended.gives
  where
    by : Gives before.moment ended.took now.to_come answers ended.gave ending → Takes before.moment before.to_come (requests_of answers) how
    by (inl whole) =
        let taken = taken_ends answers ending how before.moment ended.took now.to_come ended.gave whole same in
        let T : List ℕ → Type 0 = λ bytes. Takes before.moment bytes (requests_of answers) how in
        subst T (sym ended.passed.to_come) (takes_stay 1 before.moment ended.took now.to_come (requests_of answers) how taken.0 taken.1)
    by (inr (failed, parts)) = absurd (no_fault ending how same failed)

-- what was answered stays the first of the requests, however much more comes
pub answers_the_first : AnswersTheFirst
answers_the_first answers ending before now ended = by ended.gives
  where
    there : (rest : List ℕ) → AreRequests 1 before.moment ended.took (requests_of answers) rest
        → (left : List ℕ) × AreRequests 1 before.moment before.to_come (requests_of answers) left
    there rest are =
        let A : List ℕ → Type 0 = λ bytes. AreRequests 1 before.moment bytes (requests_of answers) (rest ++ now.to_come) in
        (rest ++ now.to_come, subst A (sym ended.passed.to_come) (requests_stay 1 before.moment ended.took (requests_of answers) rest now.to_come are))

    by : Gives before.moment ended.took now.to_come answers ended.gave ending
        → (left : List ℕ) × AreRequests 1 before.moment before.to_come (requests_of answers) left
    by (inl whole) = there whole.rest whole.requests
    by (inr (failed, inl part)) = there part.rest part.requests
    by (inr (failed, inr part)) = there part.rest part.requests

-- at status 0 nothing is to come, or the last request asked for closing
whole_is_read : (answers : List Answer) (ending : Ending) (moment : ℕ) (took to_come gave : List ℕ) → GivesWhole moment took to_come answers gave ending
    → status_of ending ≡ status.Done → (to_come ≡ []) ⊎ (is_closed (requests_of answers) ≡ true)
whole_is_read answers Done moment took to_come gave whole done = inl whole.ends.1
whole_is_read answers Closed moment took to_come gave whole done = inr whole.ends.0
whole_is_read answers LastRequest moment took to_come gave whole done = inr whole.ends.0
whole_is_read answers (Refused reason) moment took to_come gave whole done = absurd (cc)
whole_is_read answers NoMemory moment took to_come gave whole done = absurd (cc)
whole_is_read answers LinkFault moment took to_come gave whole done = absurd (cc)

fault_is_told : (ending : Ending) → ending ≡ LinkFault → status_of ending ≡ status.Done → ⊥
fault_is_told ending failed done = let told : status_of ending ≡ status.StreamFault = ap status_of failed in cc

pub reads_to_the_end : ReadsToTheEnd
reads_to_the_end answers ending before now ended done = by ended.gives
  where
    by : Gives before.moment ended.took now.to_come answers ended.gave ending → (now.to_come ≡ []) ⊎ (is_closed (requests_of answers) ≡ true)
    by (inl whole) = whole_is_read answers ending before.moment ended.took now.to_come ended.gave whole done
    by (inr (failed, parts)) = absurd (fault_is_told ending failed done)
