-- What holds of every reply.
use Rattle.std.specs.Prelude.{◌≢◌, List}
use Rattle.http_session.specs.Asked.{Asked}
use Rattle.http_session.specs.declared.reply.Reply.{Reply}
use Rattle.http_session.specs.declared.reply.Status.TheVariants.{InternalServerError}
use Rattle.profile_model.specs.declared.push.Push.{Push}
use Rattle.request_meaning.specs.Facts.{Facts}
use Rattle.api_replies.specs.Replies.{IsReply, IsExcused}

-- A reply by definition never says that the server failed, so no reply is both by definition and excused.
abbrev pub ReplyIsNoFailure : Type 0
ReplyIsNoFailure =
    (facts : Facts) (asked : Asked) (history : List Push) (reply : Reply)
    → IsReply facts asked history reply → reply.status ≢ InternalServerError

abbrev pub NeverBoth : Type 0
NeverBoth =
    (facts : Facts) (asked : Asked) (history : List Push) (reply : Reply)
    → IsReply facts asked history reply → IsExcused facts asked reply → ⊥
