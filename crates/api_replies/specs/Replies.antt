-- The replies, down to their bodies.
use Rattle.std.specs.Prelude.{◌≡◌, ◌⊎◌, ◌&&◌, ℕ, Bool, List, [], filter, nat_eq, nat_le, codes, Some, None, if◌then◌else◌}
use Rattle.std.specs.Cmp.Lexicographic.{pointwise}
use Rattle.http_session.specs.Asked.{Asked}
use Rattle.http_session.specs.declared.reply.Reply.{Reply}
use Rattle.http_session.specs.declared.reply.Status.TheVariants as status
use Rattle.http_session.specs.declared.reply.Text.{Text}
use Rattle.http_session.specs.declared.reply.Text.TheVariants.{Json, Plain}
use Rattle.folded_reader.specs.Written.{written_text}
use Rattle.label_queries.specs.Labels.{label_sets_of, label_names_of, label_values_of, series_of}
use Rattle.label_queries.specs.Texts.{names_data, series_data}
use Rattle.profile_model.specs.LabelSets.{Label}
use Rattle.push_history.specs.History.{front_of, rows_of, sums_of_rows}
use Rattle.profile_model.specs.ReadKinds.{parts_in}
use Rattle.profile_model.specs.declared.kind.ProfileType.{ProfileType}
use Rattle.profile_model.specs.declared.profile.Profile.{Profile}
use Rattle.profile_model.specs.declared.push.Push.{Push}
use Rattle.selector.specs.Matching.{matches}
use Rattle.serde_json.specs.Written.{compact_text}
use Rattle.api_replies.specs.FaultBodies.{ahead_body, limit_body}
use Rattle.request_meaning.specs.Facts.{Facts}
use Rattle.request_meaning.specs.Forms.{least_front}
use Rattle.request_meaning.specs.Meanings.{IsAsk, IsRefused, IsWrite, TakesMemory, part_of}
use Rattle.api_replies.specs.Refusals.{reply_for_memory, reply_for_refusal}
use Rattle.api_replies.specs.declared.answered.Answered.{Answered}
use Rattle.api_replies.specs.declared.answered.Answered.TheVariants as answered
use Rattle.request_meaning.specs.declared.ask.Ask.{Ask}
use Rattle.request_meaning.specs.declared.ask.Ask.TheVariants as ask
use Rattle.request_meaning.specs.declared.ask.LabelAsk.{LabelAsk}
use Rattle.request_meaning.specs.declared.ask.LabelQuery.{LabelQuery}
use Rattle.request_meaning.specs.declared.ask.LabelQuery.TheVariants.{Names, Values, Series}
use Rattle.request_meaning.specs.declared.ask.RenderAsk.{RenderAsk}
use Rattle.request_meaning.specs.declared.form.PushForm.{PushForm}
use Rattle.request_meaning.specs.declared.form.PushForm.TheVariants as written
use Rattle.request_meaning.specs.declared.meaning.Meaning.TheVariants.{Query, Write}
use Rattle.request_meaning.specs.declared.meaning.Meant.{Meant}
use Rattle.request_meaning.specs.declared.refusal.Refusal.{Refusal}
use Rattle.api_replies.specs.declared.verdict.Verdict.{Verdict}
use Rattle.api_replies.specs.declared.verdict.Verdict.TheVariants as verdict

-- an answer of this kind of text, and the front that it counts
abbrev pub answering : Text → List ℕ → ℕ → ℕ → Bool → Reply
answering text body front now close = record { status = status.Ok; text = text; body = body; allow = None; front = Some front; now = now; close = close }

-- a request that asks for more pushes of its tenant than there are
abbrev pub reply_for_ahead : ℕ → ℕ → ℕ → Bool → Reply
reply_for_ahead least front now close =
    record { status = status.Conflict; text = Json; body = ahead_body least front; allow = None; front = Some front; now = now; close = close }

-- ---- writes

-- an ingest is answered by an empty text, and a JSON push by an empty object
abbrev pub kept_text : PushForm → Text
kept_text written.Ingest = Plain
kept_text written.Json = Json

abbrev pub kept_body : PushForm → List ℕ
kept_body written.Ingest = []
kept_body written.Json = codes "{}"

abbrev pub reply_for_kept : PushForm → ℕ → ℕ → Bool → Reply
reply_for_kept form = answering (kept_text form) (kept_body form)

abbrev pub reply_for_verdict : Verdict → PushForm → ℕ → Bool → Reply
reply_for_verdict (verdict.Kept front) form now close = reply_for_kept form front now close
reply_for_verdict (verdict.OverLimit kept push limit front) form now close =
    record { status = status.UnprocessableContent; text = Json; body = limit_body push kept limit; allow = None; front = Some front; now = now; close = close }
reply_for_verdict (verdict.FrontAhead least front) form now close = reply_for_ahead least front now close
reply_for_verdict verdict.Memory form now close = reply_for_memory now close

-- ---- renders

-- the five parts are the same
abbrev pub same_kind : ProfileType → ProfileType → Bool
same_kind one other = pointwise (pointwise nat_eq) (parts_in one) (parts_in other)

-- the profile has the query's type, and its labels match
abbrev pub is_matched : RenderAsk → Profile → Bool
is_matched what profile = same_kind profile.kind what.query.kind && matches what.query.selector profile.labels profile.kind

-- the profiles that a render asks for, over all the tenant's pushes of a history
abbrev pub asked_rows : List Push → RenderAsk → List Profile
asked_rows history what =
    filter (is_matched what) (rows_of history what.part.tenant (front_of history what.part.tenant) what.part.from_ms what.part.until_ms)

-- the folded text of what they come to
abbrev pub rendered : List Push → RenderAsk → List ℕ
rendered history what = written_text (sums_of_rows (asked_rows history what))

-- ---- labels, as compact JSON

-- the label sets of the profiles that match, over all the tenant's pushes of a history
abbrev pub asked_sets : List Push → LabelAsk → List (List Label)
asked_sets history what =
    label_sets_of what.selectors.items (rows_of history what.part.tenant (front_of history what.part.tenant) what.part.from_ms what.part.until_ms)

abbrev pub listed : LabelQuery → List (List Label) → List ℕ
listed Names sets = compact_text (names_data (label_names_of sets))
listed (Values name) sets = compact_text (names_data (label_values_of name sets))
listed (Series names) sets = compact_text (series_data (series_of names.items sets))

-- ---- all of it

-- the answer to a query over a history, and the tenant's front
abbrev pub answer_to : List Push → Ask → ℕ → Bool → Reply
answer_to history (ask.Render what) = answering Plain (rendered history what) (front_of history what.part.tenant)
answer_to history (ask.Labels what) = answering Json (listed what.query (asked_sets history what)) (front_of history what.part.tenant)

-- the answer, where the tenant has as many pushes as were asked for
abbrev pub reply_to : List Push → Ask → ℕ → ℕ → Bool → Reply
reply_to history what least now close =
    let front = front_of history (part_of what).tenant in
    if nat_le least front then answer_to history what now close else reply_for_ahead least front now close

-- The reply to a request over a history, at its own moment, by definition: of its refusal, or the reply to a query.
abbrev pub IsReply : Facts → Asked → List Push → Reply → Type 0
IsReply facts asked history reply =
    ((refusal : Refusal) × IsRefused facts asked refusal × (reply ≡ reply_for_refusal refusal asked.moment asked.close))
    ⊎ ((what : Ask) × IsAsk facts asked what × (reply ≡ reply_to history what (least_front asked) asked.moment asked.close))

-- the reply to a query, or that memory ran out
abbrev pub IsRepliedTo : List Push → Asked → Ask → ℕ → Reply → Type 0
IsRepliedTo history asked what least reply =
    (reply ≡ reply_to history what least asked.moment asked.close) ⊎ (reply ≡ reply_for_memory asked.moment asked.close)

-- what comes of a request that means this
abbrev pub IsAnsweredAs : List Push → Asked → Meant → Answered → Type 0
IsAnsweredAs history asked meant (answered.Reply reply) = (what : Ask) × (meant.what ≡ Query what) × IsRepliedTo history asked what meant.least_front reply
IsAnsweredAs history asked meant (answered.Push form ask) = (meant.what ≡ Write form ask.push) × (ask.asked ≡ meant.least_front)

-- What else may come in place of the reply by definition, and keeps nothing: that memory ran out, once memory is
-- taken for the request.
abbrev pub IsExcused : Facts → Asked → Reply → Type 0
IsExcused facts asked reply = TakesMemory facts asked × (reply ≡ reply_for_memory asked.moment asked.close)

-- what is answered: the reply, or what else may come; or the write that the request is, with how many pushes its tenant must have
abbrev pub IsAnswered : Facts → Asked → List Push → Answered → Type 0
IsAnswered facts asked history (answered.Reply reply) = IsReply facts asked history reply ⊎ IsExcused facts asked reply
IsAnswered facts asked history (answered.Push form ask) = IsWrite facts asked form ask.push × (ask.asked ≡ least_front asked)
