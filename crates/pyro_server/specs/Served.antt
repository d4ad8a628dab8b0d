-- One connection, served to its end in turn: each reply over the history that the ones before it left.
use Rattle.std.specs.Prelude.{◌≡◌, ◌⊎◌, ◌-◌, ◌^◌, false, List, [], ◌∷◌, ◌++◌, map}
use Rattle.http_session.specs.Asked.{Asked}
use Rattle.link_trait.specs.Link.{Told}
use Rattle.http_session.specs.declared.reply.Reply.{Reply}
use Rattle.profile_model.specs.declared.push.Push.{Push}
use Rattle.request_meaning.specs.Facts.{Facts}
use Rattle.request_meaning.specs.Forms.{least_front}
use Rattle.request_meaning.specs.Meanings.{IsWrite}
use Rattle.api_replies.specs.Replies.{IsReply, IsExcused, reply_for_verdict}
use Rattle.request_meaning.specs.declared.form.PushForm.{PushForm}
use Rattle.api_replies.specs.declared.verdict.Verdict.{Verdict}
use Rattle.pyro_server.specs.Given.{Answer, IsEnded}
use Rattle.pyro_server.specs.Settled.{IsSettled}
use Rattle.pyro_server.specs.declared.ending.Ending.{Ending}

-- A request over a history has this reply by definition, and leaves this history: it is answered from it, or it is a
-- write that is settled first, and then told what became of it.
abbrev pub IsDefined : Facts → Asked → List Push → Reply → List Push → Type 0
IsDefined facts asked history reply next =
    (IsReply facts asked history reply × (next ≡ history))
    ⊎ ((form : PushForm) × (push : Push) × (verdict : Verdict) × IsWrite facts asked form push
    × IsSettled (facts.limit push.tenant) history push (least_front asked) verdict next
    × (reply ≡ reply_for_verdict verdict form asked.moment asked.close))

-- the reply by definition, or one that is excused, which leaves the history as it is
abbrev pub IsExchange : Facts → Asked → List Push → Reply → List Push → Type 0
IsExchange facts asked history reply next = IsDefined facts asked history reply next ⊎ (IsExcused facts asked reply × (next ≡ history))

-- a request with its reply, and the history after it
pub record Exchange : Type 0 where
  pub answer : Answer
  pub next : List Push

abbrev pub answers_of : List Exchange → List Answer
answers_of exchanges = map (λ one. one.answer) exchanges

-- from one history to another, these are answered in turn
abbrev pub InTurn : Facts → List Push → List Exchange → List Push → Type 0
InTurn facts history [] final = final ≡ history
InTurn facts history (one ∷ more) final =
    IsExchange facts one.answer.asked history one.answer.reply one.next × InTurn facts one.next more final

-- the same, where others may have pushed before each of them and after the last
abbrev pub InTurnAmongOthers : Facts → List Push → List Exchange → List Push → Type 0
InTurnAmongOthers facts history [] final = (others : List Push) × (final ≡ history ++ others)
InTurnAmongOthers facts history (one ∷ more) final =
    (others : List Push) × IsExchange facts one.answer.asked (history ++ others) one.answer.reply one.next
    × InTurnAmongOthers facts one.next more final

-- a link that tells was served to its end so, from no history to this one
abbrev pub IsServedInTurn : Facts → List Push → Ending → Told → Told → Type 0
IsServedInTurn facts final ending before now =
    (exchanges : List Exchange) × IsEnded (answers_of exchanges) ending before now × InTurn facts [] exchanges final

-- the facts of a run without settings: tenants are named by their requests, and each tenant's limit is 2^63 - 1
abbrev pub usual_facts : Facts
usual_facts = record { single = false; limit = λ tenant. 2 ^ 63 - 1 }
