-- What holds of every connection that is served.
use Rattle.std.specs.Prelude.{◌≡◌, ◌⊎◌, ◌↔◌, ℕ, true, List, [], ◌∷◌, ◌++◌, length}
use Rattle.std.specs.List.{All}
use Rattle.link_trait.specs.Link.{Told}
use Rattle.http_session.specs.Asked.{Asked}
use Rattle.http_session.specs.Takes as takes
use Rattle.http_session.specs.Takes.{AreRequests, Takes, is_closed}
use Rattle.http_session.specs.declared.reply.Reply.{Reply}
use Rattle.push_history.specs.History.{pushes_of}
use Rattle.profile_model.specs.declared.push.Push.{Push}
use Rattle.request_meaning.specs.Facts.{Facts}
use Rattle.request_meaning.specs.Forms.{tenant_of}
use Rattle.request_meaning.specs.Meanings.{IsWrite}
use Rattle.api_replies.specs.Replies.{IsReply, IsExcused}
use Rattle.request_meaning.specs.declared.form.PushForm.{PushForm}
use Rattle.api_replies.specs.declared.verdict.Verdict.TheVariants.{Kept}
use Rattle.pyro_server.specs.Given.{Answer, IsEnded, requests_of}
use Rattle.pyro_server.specs.Settled.{IsSettled}
use Rattle.pyro_server.specs.Served.{Exchange, InTurn, InTurnAmongOthers, IsDefined, answers_of}
use Rattle.pyro_server.specs.ServedAt.{IsAcknowledged, IsAnsweredAt, IsAnsweredOver, ServedAt, own_pushes}
use Rattle.pyro_server.specs.Statuses.{status_of}
use Rattle.pyro_server.specs.declared.ending.Ending.{Ending}
use Rattle.pyro_server.specs.declared.ending.Ending.TheVariants.{Done, Closed, LastRequest, Refused}
use Rattle.pyro_server.specs.declared.status.ExitStatus.TheVariants as status

-- ---- the input

-- how the bytes of a connection end, where it is they that end it
abbrev pub IsEndingOf : Ending → takes.Ending → Type 0
IsEndingOf Done takes.done = Unit {0}
IsEndingOf Closed takes.closing = Unit {0}
IsEndingOf LastRequest takes.closing = Unit {0}
IsEndingOf (Refused reason) (takes.bad same) = same ≡ reason
IsEndingOf ending how = ⊥

-- The requests that were answered are those of all of the input, which was still to come at first, however it came and
-- however much of it was read.
abbrev pub AnswersAllInput : Type 0
AnswersAllInput =
    (answers : List Answer) (ending : Ending) (before now : Told) (how : takes.Ending)
    → IsEnded answers ending before now → IsEndingOf ending how → Takes before.moment before.to_come (requests_of answers) how

-- at every other ending too they are the first of its requests
abbrev pub AnswersTheFirst : Type 0
AnswersTheFirst =
    (answers : List Answer) (ending : Ending) (before now : Told)
    → IsEnded answers ending before now → (rest : List ℕ) × AreRequests 1 before.moment before.to_come (requests_of answers) rest

-- Where the status is 0, the input was read to its end, or to a request that closes it.
abbrev pub ReadsToTheEnd : Type 0
ReadsToTheEnd =
    (answers : List Answer) (ending : Ending) (before now : Told)
    → IsEnded answers ending before now → status_of ending ≡ status.Done → (now.to_come ≡ []) ⊎ (is_closed (requests_of answers) ≡ true)

-- ---- the history

-- The history over which a request is answered is the front of the one in the end: nothing that was kept
-- leaves it, so each reply is over a prefix of one history that holds every push told as kept before.
abbrev pub HistoryGrows : Type 0
HistoryGrows =
    (facts : Facts) (history : List Push) (exchanges : List Exchange) (final : List Push)
    → InTurn facts history exchanges final → (later : List Push) × (final ≡ history ++ later)

-- A push that was told as kept stands in every later history at the place that it was told: so many pushes of
-- its tenant, itself the last of them, and then those that came after it.
abbrev pub KeepsItsPlace : Type 0
KeepsItsPlace =
    (limit : ℕ) (history next later : List Push) (push : Push) (least front : ℕ) → IsSettled limit history push least (Kept front) next
    → (front ≡ length (pushes_of history push.tenant ++ push ∷ []))
    × (pushes_of (next ++ later) push.tenant ≡ (pushes_of history push.tenant ++ push ∷ []) ++ pushes_of later push.tenant)

-- ---- served at a history

-- a connection that was answered in turn, from a base on, is served at the history that it left
abbrev pub InTurnIsServed : Type 0
InTurnIsServed =
    (facts : Facts) (base : List Push) (exchanges : List Exchange) (final : List Push)
    → InTurn facts base exchanges final → ServedAt facts (answers_of exchanges) final base

-- and so is one that was answered in turn among others, at whatever history that they all left
abbrev pub AmongOthersIsServed : Type 0
AmongOthersIsServed =
    (facts : Facts) (base : List Push) (exchanges : List Exchange) (final : List Push)
    → InTurnAmongOthers facts base exchanges final → ServedAt facts (answers_of exchanges) final base

-- what is served at a history is served at each that it grows to
abbrev pub StaysServed : Type 0
StaysServed =
    (facts : Facts) (answers : List Answer) (history later base : List Push)
    → ServedAt facts answers history base → ServedAt facts answers (history ++ later) base

-- ---- excused replies

-- the request has this reply by definition, over a front of its tenant's pushes
abbrev pub IsDefinedAt : Facts → List Push → Answer → Type 0
IsDefinedAt facts history one =
    (before : List Push) × (after : List Push) × (next : List Push) × (history ≡ before ++ after) × IsDefined facts one.asked before one.reply next

-- each reply of a connection that is served is the one by definition, or an excused one
abbrev pub IsOneOrTheOther : Type 0
IsOneOrTheOther =
    (facts : Facts) (answers : List Answer) (history base : List Push)
    → ServedAt facts answers history base → All (λ one. IsDefinedAt facts history one ⊎ IsExcused facts one.asked one.reply) answers

-- and never both
abbrev pub IsNeverBoth : Type 0
IsNeverBoth =
    (facts : Facts) (history next : List Push) (one : Answer)
    → IsDefined facts one.asked history one.reply next → IsExcused facts one.asked one.reply → ⊥

-- ---- isolation

-- what is told without a write depends on the tenant's own pushes alone
abbrev pub RepliesAreIsolated : Type 0
RepliesAreIsolated =
    (facts : Facts) (asked : Asked) (history : List Push) (reply : Reply)
    → IsReply facts asked history reply ↔ IsReply facts asked (own_pushes history (tenant_of facts asked)) reply

-- and so does what a write is told
abbrev pub AnswersAreIsolated : Type 0
AnswersAreIsolated =
    (facts : Facts) (history : List Push) (one : Answer)
    → IsAnsweredOver facts history one ↔ IsAnsweredOver facts (own_pushes history (tenant_of facts one.asked)) one

-- so a reply over a front of the tenant's pushes is one over a prefix of the history, and the other way round
abbrev pub FrontIsPrefix : Type 0
FrontIsPrefix =
    (facts : Facts) (history : List Push) (one : Answer)
    → IsAnsweredAt facts history one ↔ ((before : List Push) × (after : List Push) × (history ≡ before ++ after) × IsAnsweredOver facts before one)

-- ---- the account

-- a request whose push must have been kept: a write that was answered 200
abbrev pub MustHaveKept : Facts → Answer → Type 0
MustHaveKept facts one = IsAcknowledged facts one

-- One whose push may have been kept. As long as nothing but a link can fail, no answer leaves this open.
abbrev pub MayHaveKept : Facts → Answer → Type 0
MayHaveKept facts one = MustHaveKept facts one

-- These pushes are what the answers kept, in their order: of each that must have kept its push that one, of each that
-- may have it or none, of every other none.
abbrev pub AreKept : Facts → List Answer → List Push → Type 0
AreKept facts [] pushes = pushes ≡ []
AreKept facts (one ∷ more) pushes =
    ((form : PushForm) × (push : Push) × (rest : List Push)
    × (pushes ≡ push ∷ rest) × IsWrite facts one.asked form push × MayHaveKept facts one × AreKept facts more rest)
    ⊎ ((¬ (MustHaveKept facts one)) × AreKept facts more pushes)

-- the pushes of a history past the base are those that the answers kept
abbrev pub IsAccount : Facts → List Push → List Push → List Answer → Type 0
IsAccount facts base final answers = (kept : List Push) × (final ≡ base ++ kept) × AreKept facts answers kept

abbrev pub KeepsAccount : Type 0
KeepsAccount =
    (facts : Facts) (base : List Push) (exchanges : List Exchange) (final : List Push)
    → InTurn facts base exchanges final → IsAccount facts base final (answers_of exchanges)
