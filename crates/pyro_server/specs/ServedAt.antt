-- A connection served at a history with a base: it may share the history with others, and each of its replies
-- is over some front of its tenant's pushes.
use Rattle.std.specs.Prelude.{◌≡◌, ◌+◌, ◌<◌, ◌≤◌, ℕ, List, [], ◌∷◌, ◌++◌, length, take, Option, Some, None}
use Rattle.std.specs.List.{All}
use Rattle.link_trait.specs.Link.{Told}
use Rattle.http_session.specs.declared.reply.Status.TheVariants.{Ok}
use Rattle.push_history.specs.History.{front_of, pushes_of}
use Rattle.profile_model.specs.declared.push.Push.{Push}
use Rattle.request_meaning.specs.Facts.{Facts}
use Rattle.request_meaning.specs.Forms.{tenant_of}
use Rattle.request_meaning.specs.Meanings.{IsWrite}
use Rattle.request_meaning.specs.declared.form.PushForm.{PushForm}
use Rattle.pyro_server.specs.Given.{Answer, IsEnded}
use Rattle.pyro_server.specs.Served.{IsExchange}
use Rattle.pyro_server.specs.declared.ending.Ending.{Ending}

-- ---- replies

-- the pushes of the tenant that a request names, none where it names none
abbrev pub own_pushes : List Push → Option (List ℕ) → List Push
own_pushes history None = []
own_pushes history (Some tenant) = pushes_of history tenant

-- the request has this reply over these pushes, whatever history it would leave
abbrev pub IsAnsweredOver : Facts → List Push → Answer → Type 0
IsAnsweredOver facts pushes one = (next : List Push) × IsExchange facts one.asked pushes one.reply next

-- over so many of its tenant's pushes in the history, and these are the first ones
abbrev pub IsAnsweredAt : Facts → List Push → Answer → Type 0
IsAnsweredAt facts history one =
    let own = own_pushes history (tenant_of facts one.asked) in
    (front : ℕ) × (front ≤ length own) × IsAnsweredOver facts (take front own) one

-- ---- what was kept

-- the request is a write, and was answered 200
abbrev pub IsAcknowledged : Facts → Answer → Type 0
IsAcknowledged facts one = ((form : PushForm) × (push : Push) × IsWrite facts one.asked form push) × (one.reply.status ≡ Ok)

-- the push stands in the history behind its base, and so many pushes of its tenant stand before it
pub record StandsAt (base history : List Push) (push : Push) (place : ℕ) : Type 0 where
  pub before : List Push
  pub after : List Push
  pub is : history ≡ before ++ push ∷ after
  pub behind : length base ≤ length before
  pub at : front_of before push.tenant ≡ place

-- a push told as kept stands in the history, just before the front that was told
abbrev pub IsKept : Facts → List Push → List Push → Answer → Type 0
IsKept facts base history one =
    IsAcknowledged facts one
    → (form : PushForm) × (push : Push) × (place : ℕ)
    × IsWrite facts one.asked form push × (one.reply.front ≡ Some (place + 1)) × StandsAt base history push place

-- ---- fronts

-- the reply shows this front to this tenant
abbrev pub Shows : Facts → Answer → List ℕ → ℕ → Type 0
Shows facts one tenant front = (tenant_of facts one.asked ≡ Some tenant) × (one.reply.front ≡ Some front)

-- a front that it shows to this tenant is at least this one, and one that acknowledges a push is greater
abbrev pub IsAtLeast : Facts → List ℕ → ℕ → Answer → Type 0
IsAtLeast facts tenant least one = (front : ℕ) → Shows facts one tenant front → (least ≤ front) × (IsAcknowledged facts one → least < front)

-- along the connection the fronts shown to one tenant never fall, and each that acknowledges a push rises
abbrev pub FrontsRise : Facts → List Answer → Type 0
FrontsRise facts [] = Unit {0}
FrontsRise facts (one ∷ more) =
    ((tenant : List ℕ) (front : ℕ) → Shows facts one tenant front → All (IsAtLeast facts tenant front) more) × FrontsRise facts more

-- ---- all of it

-- These answers of one connection, in order, are served at a history with a base: each is over a front of its tenant's
-- pushes in the history; what was acknowledged stands in it, past the base; and the fronts that are shown begin at the
-- base's and rise.
pub record ServedAt (facts : Facts) (answers : List Answer) (history base : List Push) : Type 0 where
  pub replies : All (IsAnsweredAt facts history) answers
  pub kept : All (IsKept facts base history) answers
  pub fronts : FrontsRise facts answers
  pub from_base : (tenant : List ℕ) → All (IsAtLeast facts tenant (front_of base tenant)) answers
  pub begins : (later : List Push) × (history ≡ base ++ later)

-- a link that tells was served to its end so
abbrev pub IsServedAt : Facts → List Push → List Push → Ending → Told → Told → Type 0
IsServedAt facts history base ending before now =
    (answers : List Answer) × IsEnded answers ending before now × ServedAt facts answers history base
