-- How serving one request follows from taking it and giving its reply.
use Rattle.std.proofs.Common.{◌≡◌, ◌+◌, ◌∙◌, ℕ, List, [], ◌++◌, refl, sym, ap, subst, inl, inr, ⊎_elim, append-nil}
use Rattle.http_session.specs.Asked.{Asked}
use Rattle.http_session.specs.NextRequests.{NextStep}
use Rattle.link_trait.specs.Link.{Told, Took, Gave, Passed}
use Rattle.http_session.specs.Reply.{bytes_of_reply}
use Rattle.http_session.specs.Takes.{IsWhole}
use Rattle.http_session.specs.Progress.{Progress}
use Rattle.http_session.specs.declared.bad_request.BadRequest.{BadRequest}
use Rattle.http_session.specs.declared.reader.NextRequest.TheVariants as came
use Rattle.http_session.specs.declared.reply.Reply.{Reply}
use Rattle.profile_model.specs.declared.push.Push.{Push}
use Rattle.request_meaning.specs.Facts.{Facts}
use Rattle.request_meaning.specs.Forms.{least_front}
use Rattle.request_meaning.specs.Meanings.{IsWrite, TakesMemory}
use Rattle.api_replies.specs.Replies.{reply_for_verdict}
use Rattle.request_meaning.specs.declared.form.PushForm.{PushForm}
use Rattle.request_meaning.specs.declared.form.PushForm.TheVariants as written
use Rattle.api_replies.specs.declared.verdict.Verdict.{Verdict}
use Rattle.api_replies.specs.declared.verdict.Verdict.TheVariants.{Kept, FrontAhead, OverLimit, Memory}
use Rattle.tenant_books.specs.declared.asks.PushAsk.{PushAsk}
use Rattle.pyro_server.specs.Settled.{IsSettledOrNot}
use Rattle.pyro_server.specs.Given.{last_bytes}
use Rattle.pyro_server.specs.Served.{IsExchange}
use Rattle.pyro_server.specs.Steps.{EndsBehind, GivesReply, GivesLast, ServesStep}
use Rattle.pyro_server.specs.declared.session.Step.{Step}
use Rattle.pyro_server.specs.declared.session.Step.TheVariants.{Replied, Over}
use Rattle.pyro_server.specs.declared.ending.Ending.{Ending}
use Rattle.pyro_server.specs.declared.ending.Ending.TheVariants.{Done, Refused, NoMemory, LinkFault}

-- a piece was taken, and then some bytes given
pub took_gave : (piece bytes : List ℕ) (a b c : Told) → Took piece a b → Gave bytes b c → Passed piece bytes a c
took_gave piece bytes a b c took gave = record {
  taken = gave.taken ∙ took.taken;
  to_come = took.to_come ∙ ap (λ (left : List ℕ). piece ++ left) (sym gave.to_come);
  given = gave.given ∙ ap (λ (so_far : List ℕ). so_far ++ bytes) took.given;
  moment = gave.moment ∙ took.moment;
}

-- a piece was taken, and nothing given
pub took_alone : (piece : List ℕ) (a b : Told) → Took piece a b → Passed piece [] a b
took_alone piece a b took = record {
  taken = took.taken;
  to_come = took.to_come;
  given = took.given ∙ sym (append-nil a.given);
  moment = took.moment;
}

-- a write is a request for which memory is taken
write_takes_memory : (facts : Facts) (asked : Asked) (form : PushForm) (push : Push) → IsWrite facts asked form push → TakesMemory facts asked
write_takes_memory facts asked written.Ingest push write = (_, push.tenant, write.0)
write_takes_memory facts asked written.Json push write = (_, push.tenant, write.0)

-- a push was settled, or memory ran out, and its verdict is told
pub settled_exchange : (facts : Facts) (asked : Asked) (history next : List Push) (reply : Reply) (form : PushForm) (ask : PushAsk) (verdict : Verdict)
    → IsWrite facts asked form ask.push × (ask.asked ≡ least_front asked) → IsSettledOrNot (facts.limit ask.push.tenant) history ask.push ask.asked verdict next
    → reply ≡ reply_for_verdict verdict form asked.moment asked.close → IsExchange facts asked history reply next
settled_exchange facts asked history next reply form ask verdict (write, least) settled told =
    by verdict (subst (λ n. IsSettledOrNot (facts.limit ask.push.tenant) history ask.push n verdict next) least settled) told
  where
    by : (verdict : Verdict) → IsSettledOrNot (facts.limit ask.push.tenant) history ask.push (least_front asked) verdict next
        → reply ≡ reply_for_verdict verdict form asked.moment asked.close → IsExchange facts asked history reply next
    by Memory stays said = inr ((write_takes_memory facts asked form ask.push write, said), stays)
    by (Kept front) is said = inl (inr (form, ask.push, Kept front, write, is, said))
    by (FrontAhead least front) is said = inl (inr (form, ask.push, FrontAhead least front, write, is, said))
    by (OverLimit kept adds limit front) is said = inl (inr (form, ask.push, OverLimit kept adds limit front, write, is, said))

module _ (facts : Facts) (old new : Progress) (history next : List Push) where
  -- a request was taken, and its reply given
  pub answered_step : (asked : Asked) (reply : Reply) (result : Step) (before between now : Told)
      → new.given ≡ old.given + 1 → IsExchange facts asked history reply next
      → NextStep (came.Request asked) old new before between → GivesReply asked.close reply result between now
      → ServesStep facts old new history next result before now
  answered_step asked reply (Replied closes) before between now number exchange (piece, took, whole) (closing, gave) =
      (piece, asked, reply, took_gave piece (bytes_of_reply reply) before between now took gave, whole, exchange, sym closing)
  answered_step asked reply (Over ending) before between now number exchange (piece, took, whole) (failed, (front, rest, cut, gave)) =
      let P : ℕ → Type 0 = λ n. IsWhole n before.moment (old.held ++ piece) asked new.held in
      (piece, front, took_gave piece front before between now took gave, inr (failed, (asked, reply, new.held, subst P number whole, (rest, cut), exchange)))

  -- the input ended between requests
  pub ended_step : (before now : Told) → next ≡ history → NextStep came.End old new before now
      → ServesStep facts old new history next (Over Done) before now
  ended_step before now same (piece, took, (between, none)) =
      (piece, [], took_alone piece before now took, inl (inl ((λ requests on count. ((on, between), none)), refl), same))

  -- the link failed before a request was whole
  pub failed_step : (count : ℕ) (before now : Told) → next ≡ history → NextStep (came.LinkFault count) old new before now
      → ServesStep facts old new history next (Over LinkFault) before now
  failed_step count before now same (piece, took, part) =
      (piece, [], took_alone piece before now took, inl (inl ((λ requests on many. (on, part)), refl), same))

  -- the connection ends at the bytes that came, and what this gives was given
  last_step : (due ending : Ending) (piece : List ℕ) (before between now : Told) → next ≡ history → Took piece before between
      → EndsBehind old.given (old.held ++ piece) between.to_come due → GivesLast due ending between now
      → ServesStep facts old new history next (Over ending) before now
  last_step due ending piece before between now same took ends (inl (is, gave)) =
      let bytes = last_bytes due between.moment in
      let Q : List ℕ → Type 0 = λ to_come. EndsBehind old.given (old.held ++ piece) to_come due in
      let P : Ending → Type 0 = λ e. EndsBehind old.given (old.held ++ piece) now.to_come e × (bytes ≡ last_bytes e before.moment) in
      let all : P due = (subst Q (sym gave.to_come) ends, ap (λ (m : ℕ). last_bytes due m) took.moment) in
      (piece, bytes, took_gave piece bytes before between now took gave, inl (inl (subst P (sym is) all), same))
  last_step due ending piece before between now same took ends (inr (failed, (front, rest, cut, gave))) =
      let Q : List ℕ → Type 0 = λ to_come. EndsBehind old.given (old.held ++ piece) to_come due in
      let here : last_bytes due before.moment ≡ front ++ rest = ap (λ (m : ℕ). last_bytes due m) (sym took.moment) ∙ cut in
      (piece, front, took_gave piece front before between now took gave, inl (inr (failed, (due, subst Q (sym gave.to_come) ends, (rest, here))), same))

  -- the bytes are no request, and the last reply was given
  pub refused_step : (bad : BadRequest) (ending : Ending) (before between now : Told) → next ≡ history
      → NextStep (came.Bad bad) old new before between → GivesLast (Refused bad) ending between now
      → ServesStep facts old new history next (Over ending) before now
  refused_step bad ending before between now same (piece, took, (is_bad, cut_off)) gives =
      last_step (Refused bad) ending piece before between now same took (λ requests on count. ((on, is_bad), cut_off)) gives

  -- memory ran out while a request was read, and the last reply was given
  pub starved_step : (ending : Ending) (before between now : Told) → next ≡ history
      → NextStep came.Memory old new before between → GivesLast NoMemory ending between now
      → ServesStep facts old new history next (Over ending) before now
  starved_step ending before between now same (piece, took, said) gives =
      last_step NoMemory ending piece before between now same took
      (λ requests on count. (on, ⊎_elim (λ fresh. inl (count ∙ fresh.0, fresh.1)) (λ head. inr head) said)) gives
