-- What a reply says of the history that it is over.
use Rattle.std.proofs.Common.{◌≡◌, ◌≢◌, ◌∙◌, ℕ, Bool, true, false, cond, List, [], ◌∷◌, refl, sym, ap, inl, inr}
use Rattle.std.specs.Prelude.{filter, nat_le, Option, Some, None, if◌then◌else◌}
use Rattle.http_session.specs.Asked.{Asked}
use Rattle.http_session.specs.declared.reply.Reply.{Reply}
use Rattle.http_session.specs.declared.reply.Status.TheVariants.{Ok}
use Rattle.push_history.specs.History.{front_of, pushes_of}
use Rattle.profile_model.specs.declared.push.Push.{Push}
use Rattle.request_meaning.specs.Facts.{Facts}
use Rattle.request_meaning.specs.Forms.{least_front, route_of, tenant_of}
use Rattle.routes.specs.declared.route.Route.{Route}
use Rattle.routes.specs.declared.route.Route.TheVariants as route
use Rattle.request_meaning.specs.declared.ask.LabelQuery.{LabelQuery}
use Rattle.request_meaning.specs.declared.ask.LabelQuery.TheVariants as label
use Rattle.request_meaning.specs.Meanings.{IsAsk, IsWrite, Reaches, part_of}
use Rattle.request_meaning.specs.LabelAsks.{method_of}
use Rattle.api_replies.specs.Refusals.{reply_for_refusal}
use Rattle.api_replies.specs.Replies.{IsExcused, IsReply, answer_to, reply_for_ahead, reply_to}
use Rattle.request_meaning.specs.declared.ask.Ask.{Ask}
use Rattle.request_meaning.specs.declared.ask.Ask.TheVariants.{Render, Labels}
use Rattle.request_meaning.specs.declared.form.PushForm.{PushForm}
use Rattle.request_meaning.specs.declared.form.PushForm.TheVariants as written
use Rattle.request_meaning.specs.declared.refusal.Refusal.{Refusal}
use Rattle.api_replies.proofs.StatusLemmas.{refusal_blames}

-- ---- a tenant's own pushes

filter-again : {X : Type 0} (p : X → Bool) (xs : List X) → filter p (filter p xs) ≡ filter p xs
filter-again p [] = refl
filter-again {X} p (x ∷ xs) = by (p x) refl (filter-again p xs)
  where
    by : (kept : Bool) → p x ≡ kept → filter p (filter p xs) ≡ filter p xs
        → filter p (cond kept (x ∷ filter p xs) (filter p xs)) ≡ cond kept (x ∷ filter p xs) (filter p xs)
    by true is later = rw is (ap (λ ys. x ∷ ys) later)
    by false is later = later

-- a tenant's pushes among its own are all of them
pub own_again : (history : List Push) (tenant : List ℕ) → pushes_of (pushes_of history tenant) tenant ≡ pushes_of history tenant
own_again history tenant = filter-again _ history

-- ---- who asks and who writes

abbrev pub asker : Ask → List ℕ
asker what = (part_of what).tenant

pub asker_is_named : (facts : Facts) (asked : Asked) (what : Ask) → IsAsk facts asked what → tenant_of facts asked ≡ Some (asker what)
asker_is_named facts asked (Render what) asks = asks.0.named
asker_is_named facts asked (Labels what) asks = asks.0.named

pub writer_is_named : (facts : Facts) (asked : Asked) (form : PushForm) (push : Push) → IsWrite facts asked form push → tenant_of facts asked ≡ Some push.tenant
writer_is_named facts asked written.Ingest push write = write.0.named
writer_is_named facts asked written.Json push write = write.0.named

abbrev route_of_form : PushForm → Route
route_of_form written.Ingest = route.Ingest
route_of_form written.Json = route.Push

-- a query is no write
other_route : (query : LabelQuery) (form : PushForm) → route_of (method_of query) ≢ route_of_form form
other_route label.Names written.Ingest is = cc
other_route label.Names written.Json is = cc
other_route (label.Values name) written.Ingest is = cc
other_route (label.Values name) written.Json is = cc
other_route (label.Series names) written.Ingest is = cc
other_route (label.Series names) written.Json is = cc

one_route : (facts : Facts) (asked : Asked) (one other : Route) (tenant another : List ℕ) → Reaches facts asked one tenant → Reaches facts asked other another → one ≡ other
one_route facts asked one other tenant another reach came = some_same (sym reach.route_is ∙ came.route_is)
  where
    some_same : ◌≡◌ {A = Option Route} (Some one) (Some other) → one ≡ other
    some_same same = cc

asks_no_write : (facts : Facts) (asked : Asked) (what : Ask) (form : PushForm) (push : Push) → IsAsk facts asked what → IsWrite facts asked form push → ⊥
asks_no_write facts asked (Render what) written.Ingest push asks write = let same = one_route facts asked _ _ _ _ asks.0 write.0 in cc
asks_no_write facts asked (Render what) written.Json push asks write = let same = one_route facts asked _ _ _ _ asks.0 write.0 in cc
asks_no_write facts asked (Labels what) written.Ingest push asks write = other_route what.query written.Ingest (one_route facts asked _ _ _ _ asks.0 write.0)
asks_no_write facts asked (Labels what) written.Json push asks write = other_route what.query written.Json (one_route facts asked _ _ _ _ asks.0 write.0)

-- ---- queries

-- an answer to a query shows its tenant's front
answer_shows : (history : List Push) (what : Ask) (now : ℕ) (close : Bool) → (answer_to history what now close).front ≡ Some (front_of history (asker what))
answer_shows history (Render what) now close = refl
answer_shows history (Labels what) now close = refl

-- the reply to one is over the pushes of its tenant alone, and shows its front too
reply_to_alike : (history other : List Push) (what : Ask) (least now : ℕ) (close : Bool) → pushes_of history (asker what) ≡ pushes_of other (asker what)
    → reply_to history what least now close ≡ reply_to other what least now close
reply_to_alike history other (Render what) least now close same = rw same refl
reply_to_alike history other (Labels what) least now close same = rw same refl

reply_shows : (history : List Push) (what : Ask) (least now : ℕ) (close : Bool) → (reply_to history what least now close).front ≡ Some (front_of history (asker what))
reply_shows history what least now close = by (nat_le least (front_of history (asker what)))
  where
    by : (enough : Bool)
        → (if enough then answer_to history what now close else reply_for_ahead least (front_of history (asker what)) now close).front ≡ Some (front_of history (asker what))
    by true = answer_shows history what now close
    by false = refl

-- a reply is over the pushes of the request's tenant alone
pub reply_alike : (facts : Facts) (asked : Asked) (history other : List Push) (reply : Reply)
    → ((tenant : List ℕ) → tenant_of facts asked ≡ Some tenant → pushes_of history tenant ≡ pushes_of other tenant)
    → IsReply facts asked history reply → IsReply facts asked other reply
reply_alike facts asked history other reply same (inl refused) = inl refused
reply_alike facts asked history other reply same (inr (what, asks, is)) =
    inr (what, asks, is ∙ reply_to_alike history other what (least_front asked) asked.moment asked.close (same (asker what) (asker_is_named facts asked what asks)))

-- ---- refusals

-- a refusal shows no front, and isn't 200
abbrev pub RefusesPlainly : Reply → Type 0
RefusesPlainly reply = (reply.front ≡ None) × (reply.status ≢ Ok)

refusal_refuses : (wrong : Refusal) (now : ℕ) (close : Bool) → RefusesPlainly (reply_for_refusal wrong now close)
refusal_refuses wrong now close = (refl, (refusal_blames wrong).0)

-- nor does what comes in place of a reply
pub excused_refuses : (facts : Facts) (asked : Asked) (reply : Reply) → IsExcused facts asked reply → RefusesPlainly reply
excused_refuses facts asked reply (takes, is) = rw is (refl, λ same. cc)

-- ---- what a reply shows

-- a front that a reply shows is that of the request's tenant
pub shows_its_front : (facts : Facts) (asked : Asked) (history : List Push) (reply : Reply) (front : ℕ)
    → IsReply facts asked history reply → reply.front ≡ Some front
    → (tenant : List ℕ) × (tenant_of facts asked ≡ Some tenant) × (front ≡ front_of history tenant)
shows_its_front facts asked history reply front (inl (wrong, refused, is)) shown =
    let none = (refusal_refuses wrong asked.moment asked.close).0 in absurd (some_is_not_none front (sym shown ∙ ap (λ (r : Reply). r.front) is ∙ none))
  where
    some_is_not_none : (n : ℕ) → ◌≡◌ {A = Option ℕ} (Some n) None → ⊥
    some_is_not_none n same = cc
shows_its_front facts asked history reply front (inr (what, asks, is)) shown = (
  asker what,
  asker_is_named facts asked what asks,
  one_front front (front_of history (asker what)) (sym shown ∙ ap (λ (r : Reply). r.front) is ∙ reply_shows history what (least_front asked) asked.moment asked.close),
)
  where
    one_front : (m n : ℕ) → ◌≡◌ {A = Option ℕ} (Some m) (Some n) → m ≡ n
    one_front m n same = cc

-- a write isn't answered 200 from a history
pub answers_no_write : (facts : Facts) (asked : Asked) (history : List Push) (reply : Reply) (form : PushForm) (push : Push)
    → IsReply facts asked history reply → IsWrite facts asked form push → reply.status ≢ Ok
answers_no_write facts asked history reply form push (inl (wrong, refused, is)) write ok =
    (refusal_refuses wrong asked.moment asked.close).1 (sym (ap (λ (r : Reply). r.status) is) ∙ ok)
answers_no_write facts asked history reply form push (inr (what, asks, is)) write ok = asks_no_write facts asked what form push asks write
