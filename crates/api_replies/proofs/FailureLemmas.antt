-- No reply by definition says that the server failed.
use Rattle.std.proofs.Common.{◌≢◌, ◌∙◌, ℕ, Bool, true, false, List, sym, ap, inl, inr}
use Rattle.std.specs.Prelude.{nat_le, if◌then◌else◌}
use Rattle.http_session.specs.declared.reply.Reply.{Reply}
use Rattle.http_session.specs.declared.reply.Status.TheVariants.{InternalServerError}
use Rattle.profile_model.specs.declared.push.Push.{Push}
use Rattle.request_meaning.specs.declared.ask.Ask.{Ask}
use Rattle.request_meaning.specs.declared.ask.Ask.TheVariants as ask
use Rattle.api_replies.specs.ReplyLaws.{NeverBoth, ReplyIsNoFailure}
use Rattle.push_history.specs.History.{front_of}
use Rattle.request_meaning.specs.Forms.{least_front}
use Rattle.request_meaning.specs.Meanings.{part_of}
use Rattle.api_replies.specs.Replies.{answer_to, reply_for_ahead, reply_to}
use Rattle.api_replies.proofs.StatusLemmas.{refusal_blames}

answer_blames : (history : List Push) (what : Ask) (now : ℕ) (close : Bool) → (answer_to history what now close).status ≢ InternalServerError
answer_blames history (ask.Render what) now close is = cc
answer_blames history (ask.Labels what) now close is = cc

reply_blames : (history : List Push) (what : Ask) (least now : ℕ) (close : Bool) → (reply_to history what least now close).status ≢ InternalServerError
reply_blames history what least now close = by (nat_le least (front_of history (part_of what).tenant))
  where
    by : (enough : Bool) → (if enough then answer_to history what now close else reply_for_ahead least (front_of history (part_of what).tenant) now close).status ≢ InternalServerError
    by true is = answer_blames history what now close is
    by false is = cc

pub reply_is_no_failure : ReplyIsNoFailure
reply_is_no_failure facts asked history reply (inl (wrong, refused, is)) failed =
    (refusal_blames wrong).1 (sym (ap (λ (r : Reply). r.status) is) ∙ failed)
reply_is_no_failure facts asked history reply (inr (what, asks, is)) failed =
    reply_blames history what (least_front asked) asked.moment asked.close (sym (ap (λ (r : Reply). r.status) is) ∙ failed)

pub never_both : NeverBoth
never_both facts asked history reply told excused = reply_is_no_failure facts asked history reply told (ap (λ (r : Reply). r.status) excused.1)
