-- What makes a reply the answer to a request.
use Rattle.std.proofs.Common.{◌⊎◌, ◌∙◌, ⊎_elim, inl, inr, List, subst}
use Rattle.http_session.specs.Asked.{Asked}
use Rattle.http_session.specs.declared.reply.Reply.{Reply}
use Rattle.profile_model.specs.declared.push.Push.{Push}
use Rattle.request_meaning.specs.Facts.{Facts}
use Rattle.request_meaning.specs.Forms.{least_front}
use Rattle.request_meaning.specs.Meanings.{IsAsk, IsMeant, Means, TakesMemory}
use Rattle.api_replies.specs.Replies.{IsAnswered, IsAnsweredAs, IsExcused, IsRepliedTo, IsReply}
use Rattle.request_meaning.specs.declared.meaning.Meant.{Meant}
use Rattle.api_replies.specs.declared.answered.Answered.{Answered}
use Rattle.api_replies.specs.declared.answered.Answered.TheVariants as answered
use Rattle.request_meaning.specs.declared.ask.Ask.{Ask}
use Rattle.request_meaning.specs.declared.ask.Ask.TheVariants as ask

-- memory is taken for a query
asks_memory : (facts : Facts) (asked : Asked) (what : Ask) → IsAsk facts asked what → TakesMemory facts asked
asks_memory facts asked (ask.Render what) asks = (_, what.part.tenant, asks.0)
asks_memory facts asked (ask.Labels what) asks = (_, what.part.tenant, asks.0)

query_answered : (facts : Facts) (asked : Asked) (history : List Push) (what : Ask) (reply : Reply) → IsAsk facts asked what
    → IsRepliedTo history asked what (least_front asked) reply
    → IsReply facts asked history reply ⊎ IsExcused facts asked reply
query_answered facts asked history what reply asks given =
    ⊎_elim (λ is. inl (inr (what, asks, is))) (λ is. inr (asks_memory facts asked what asks, is)) given

-- what comes of what a request means is what is answered to the request
pub meant_answered : (facts : Facts) (asked : Asked) (history : List Push) (meant : Meant) (result : Answered) → IsMeant facts asked meant
    → IsAnsweredAs history asked meant result → IsAnswered facts asked history result
meant_answered facts asked history meant (answered.Reply reply) means (what, is, replied) =
    query_answered facts asked history what reply (subst (Means facts asked) is means.0)
    (subst (λ n. IsRepliedTo history asked what n reply) means.1 replied)
meant_answered facts asked history meant (answered.Push form ask) means (is, least) = (subst (Means facts asked) is means.0, least ∙ means.1)
