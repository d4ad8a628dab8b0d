-- How a connection that is served in turn is served at the history that it leaves.
use Rattle.std.proofs.Common.{◌≡◌, ◌+◌, ◌≤◌, ◌∙◌, ◌≢◌, ℕ, Bool, List, [], ◌∷◌, ◌++◌, length, take, refl, sym, ap, subst, inl, inr, arith, append-nil, append_assoc, length-append}
use Rattle.std.specs.Prelude.{◌⊎◌}
use Rattle.std.specs.List.{All}
use Rattle.std.proofs.lemmas.List.{take-append-le}
use Rattle.std.proofs.lemmas.List.Elements.{All-nil, All-cons, All-weaker}
use Rattle.link_trait.specs.Link.{Told}
use Rattle.push_history.specs.History.{front_of}
use Rattle.profile_model.specs.declared.push.Push.{Push}
use Rattle.request_meaning.specs.Forms.{least_front, tenant_of}
use Rattle.request_meaning.specs.Facts.{Facts}
use Rattle.api_replies.specs.Replies.{IsExcused, reply_for_verdict}
use Rattle.request_meaning.specs.declared.form.PushForm.{PushForm}
use Rattle.api_replies.specs.declared.verdict.Verdict.{Verdict}
use Rattle.api_replies.specs.declared.verdict.Verdict.TheVariants.{Kept, FrontAhead, OverLimit, Memory}
use Rattle.api_replies.proofs.FailureLemmas.{never_both}
use Rattle.http_session.specs.declared.reply.Reply.{Reply}
use Rattle.http_session.specs.declared.reply.Status.TheVariants.{InternalServerError}
use Rattle.pyro_server.specs.Given.{Answer}
use Rattle.pyro_server.specs.Settled.{IsSettled}
use Rattle.pyro_server.specs.Served.{Exchange, InTurn, InTurnAmongOthers, IsExchange, IsServedInTurn, answers_of}
use Rattle.pyro_server.specs.ServedAt.{FrontsRise, IsAcknowledged, IsAnsweredAt, IsAnsweredOver, IsAtLeast, IsKept, IsServedAt, StandsAt, own_pushes}
use Rattle.pyro_server.specs.ServedLaws.{AmongOthersIsServed, InTurnIsServed, IsAccount, IsDefinedAt, IsNeverBoth, IsOneOrTheOther, KeepsAccount, StaysServed}
use Rattle.pyro_server.specs.declared.ending.Ending.{Ending}
use Rattle.pyro_server.proofs.Growing.{both, exchange_grows}
use Rattle.pyro_server.proofs.Histories.{Keeps, answered_at, between_fronts, front_grows, front_is_prefix, keeps_or_stays, kept_stands, own-append}

-- ---- the history

among_grows : (facts : Facts) (history : List Push) (exchanges : List Exchange) (final : List Push) → InTurnAmongOthers facts history exchanges final
    → (later : List Push) × (final ≡ history ++ later)
among_grows facts history [] final left = left
among_grows facts history (one ∷ more) final (others, exchange, turn) =
    let here = history ++ others in
    let grown = exchange_grows facts one.answer.asked here one.next one.answer.reply exchange in
    both history here final (others, refl) (both here one.next final grown (among_grows facts one.next more final turn))

-- in turn by itself is in turn among none
among_none : (facts : Facts) (history : List Push) (exchanges : List Exchange) (final : List Push) → InTurn facts history exchanges final
    → InTurnAmongOthers facts history exchanges final
among_none facts history [] final same = ([], same ∙ sym (append-nil history))
among_none facts history (one ∷ more) final (exchange, turn) =
    let P : List Push → Type 0 = λ pushes. IsExchange facts one.answer.asked pushes one.answer.reply one.next in
    ([], subst P (sym (append-nil history)) exchange, among_none facts one.next more final turn)

-- ---- replies

replies_at : (facts : Facts) (history : List Push) (exchanges : List Exchange) (final : List Push) → InTurnAmongOthers facts history exchanges final
    → All (IsAnsweredAt facts final) (answers_of exchanges)
replies_at facts history [] final left = All-nil (IsAnsweredAt facts final)
replies_at facts history (one ∷ more) final (others, exchange, turn) =
    let here = history ++ others in
    let grown = both here one.next final (exchange_grows facts one.answer.asked here one.next one.answer.reply exchange) (among_grows facts one.next more final turn) in
    let P : List Push → Type 0 = λ pushes. IsAnsweredAt facts pushes one.answer in
    All-cons (IsAnsweredAt facts final) one.answer (answers_of more) (subst P (sym grown.1) (answered_at facts here grown.0 one.answer (one.next, exchange)))
    (replies_at facts one.next more final turn)

-- ---- what was kept

kept_at : (facts : Facts) (base middle : List Push) (exchanges : List Exchange) (final : List Push) → InTurnAmongOthers facts (base ++ middle) exchanges final
    → All (IsKept facts base final) (answers_of exchanges)
kept_at facts base middle [] final left = All-nil (IsKept facts base final)
kept_at facts base middle (one ∷ more) final (others, exchange, turn) =
    let P : List Push → Type 0 = λ pushes. IsExchange facts one.answer.asked pushes one.answer.reply one.next in
    let here : IsExchange facts one.answer.asked (base ++ (middle ++ others)) one.answer.reply one.next = subst P (append_assoc base middle others) exchange in
    let grown = exchange_grows facts one.answer.asked (base ++ (middle ++ others)) one.next one.answer.reply here in
    let ends = among_grows facts one.next more final turn in
    let next : one.next ≡ base ++ ((middle ++ others) ++ grown.0) = grown.1 ∙ append_assoc base (middle ++ others) grown.0 in
    let Q : List Push → Type 0 = λ pushes. IsKept facts base pushes one.answer in
    let R : List Push → Type 0 = λ pushes. InTurnAmongOthers facts pushes more final in
    All-cons (IsKept facts base final) one.answer (answers_of more) (subst Q (sym ends.1) (kept_stands facts base (middle ++ others) one.next ends.0 one.answer here))
    (kept_at facts base ((middle ++ others) ++ grown.0) more final (subst R next turn))

-- ---- fronts

at_least_less : (facts : Facts) (tenant : List ℕ) (low least : ℕ) → low ≤ least → (one : Answer) → IsAtLeast facts tenant least one → IsAtLeast facts tenant low one
at_least_less facts tenant low least less one shows front shown =
    let told = shows front shown in
    let above = told.0 in
    (omega arith, λ acknowledged. (let past = told.1 acknowledged in omega arith))

-- a tenant's front of a history that grew is no less
front_later : (history final : List Push) (tenant : List ℕ) → (later : List Push) × (final ≡ history ++ later) → front_of history tenant ≤ front_of final tenant
front_later history final tenant (later, is) = subst (λ (pushes : List Push). front_of history tenant ≤ front_of pushes tenant) (sym is) (front_grows history later tenant)

-- no front that is shown is less than the tenant's in the history that the run begins with
at_least : (facts : Facts) (history : List Push) (exchanges : List Exchange) (final : List Push) → InTurnAmongOthers facts history exchanges final
    → (tenant : List ℕ) → All (IsAtLeast facts tenant (front_of history tenant)) (answers_of exchanges)
at_least facts history [] final left tenant = All-nil (IsAtLeast facts tenant (front_of history tenant))
at_least facts history (one ∷ more) final (others, exchange, turn) tenant =
    let here = history ++ others in
    let before = front_grows history others tenant in
    let after = front_later here one.next tenant (exchange_grows facts one.answer.asked here one.next one.answer.reply exchange) in
    let less : front_of history tenant ≤ front_of one.next tenant = omega arith in
    let first : IsAtLeast facts tenant (front_of here tenant) one.answer =
    λ front shown. (let told = between_fronts facts here one.next one.answer tenant front exchange shown in (told.0, told.1)) in
    All-cons (IsAtLeast facts tenant (front_of history tenant)) one.answer (answers_of more)
    (at_least_less facts tenant (front_of history tenant) (front_of here tenant) before one.answer first)
    (All-weaker (IsAtLeast facts tenant (front_of one.next tenant)) (IsAtLeast facts tenant (front_of history tenant))
    (at_least_less facts tenant (front_of history tenant) (front_of one.next tenant) less) (answers_of more) (at_least facts one.next more final turn tenant))

fronts_rise : (facts : Facts) (history : List Push) (exchanges : List Exchange) (final : List Push) → InTurnAmongOthers facts history exchanges final
    → FrontsRise facts (answers_of exchanges)
fronts_rise facts history [] final left = tt
fronts_rise facts history (one ∷ more) final (others, exchange, turn) = (
  λ tenant front shown.
      let told = between_fronts facts (history ++ others) one.next one.answer tenant front exchange shown in
      All-weaker (IsAtLeast facts tenant (front_of one.next tenant)) (IsAtLeast facts tenant front)
      (at_least_less facts tenant front (front_of one.next tenant) told.2) (answers_of more) (at_least facts one.next more final turn tenant),
  fronts_rise facts one.next more final turn,
)

-- ---- the laws

pub among_others_is_served : AmongOthersIsServed
among_others_is_served facts base exchanges final turn =
    let Q : List Push → Type 0 = λ pushes. InTurnAmongOthers facts pushes exchanges final in record {
      replies = replies_at facts base exchanges final turn;
      kept = kept_at facts base [] exchanges final (subst Q (sym (append-nil base)) turn);
      fronts = fronts_rise facts base exchanges final turn;
      from_base = at_least facts base exchanges final turn;
      begins = among_grows facts base exchanges final turn;
    }

pub in_turn_is_served : InTurnIsServed
in_turn_is_served facts base exchanges final turn = among_others_is_served facts base exchanges final (among_none facts base exchanges final turn)

-- a reply over a front of the tenant's pushes is one in a longer history
answered_stays : (facts : Facts) (history later : List Push) (one : Answer) → IsAnsweredAt facts history one → IsAnsweredAt facts (history ++ later) one
answered_stays facts history later one (front, few, answered) =
    let named = tenant_of facts one.asked in
    let own = own_pushes history named in
    let more = own-append history later named in
    let long : length (own_pushes (history ++ later) named) ≡ length own + length (own_pushes later named) = ap length more ∙ length-append own (own_pushes later named) in
    let same : take front (own_pushes (history ++ later) named) ≡ take front own = ap (take front) more ∙ take-append-le front own (own_pushes later named) few in
    let P : List Push → Type 0 = λ pushes. IsAnsweredOver facts pushes one in (front, omega arith, subst P (sym same) answered)

stands_still : (base history later : List Push) (push : Push) (place : ℕ) → StandsAt base history push place → StandsAt base (history ++ later) push place
stands_still base history later push place stands = record {
  before = stands.before;
  after = stands.after ++ later;
  is = ap (λ (pushes : List Push). pushes ++ later) stands.is ∙ append_assoc stands.before (push ∷ stands.after) later;
  behind = stands.behind;
  at = stands.at;
}

kept_still : (facts : Facts) (base history later : List Push) (one : Answer) → IsKept facts base history one → IsKept facts base (history ++ later) one
kept_still facts base history later one kept acknowledged =
    let stands = kept acknowledged in (stands.0, stands.1, stands.2, stands.3, stands.4, stands_still base history later stands.1 stands.2 stands.5)

pub stays_served : StaysServed
stays_served facts answers history later base at = record {
  replies = All-weaker (IsAnsweredAt facts history) (IsAnsweredAt facts (history ++ later)) (answered_stays facts history later) answers at.replies;
  kept = All-weaker (IsKept facts base history) (IsKept facts base (history ++ later)) (kept_still facts base history later) answers at.kept;
  fronts = at.fronts;
  from_base = at.from_base;
  begins = (at.begins.0 ++ later, ap (λ (pushes : List Push). pushes ++ later) at.begins.1 ∙ append_assoc base at.begins.0 later);
}

-- what was served in turn from no history was served at the history that it left
pub served_at : (facts : Facts) (final : List Push) (ending : Ending) (before now : Told) → IsServedInTurn facts final ending before now
    → IsServedAt facts final [] ending before now
served_at facts final ending before now (exchanges, ended, turn) = (answers_of exchanges, ended, in_turn_is_served facts [] exchanges final turn)

-- ---- excused replies

-- over a front of the tenant's pushes, so over a prefix of the history
one_or_the_other : (facts : Facts) (history : List Push) (one : Answer) → IsAnsweredAt facts history one
    → IsDefinedAt facts history one ⊎ IsExcused facts one.asked one.reply
one_or_the_other facts history one answered = by ((front_is_prefix facts history one).0 answered)
  where
    by : ((before : List Push) × (after : List Push) × (history ≡ before ++ after) × IsAnsweredOver facts before one)
        → IsDefinedAt facts history one ⊎ IsExcused facts one.asked one.reply
    by (before, after, is, (next, inl defined)) = inl (before, after, next, is, defined)
    by (before, after, is, (next, inr (excused, stays))) = inr excused

pub is_one_or_the_other : IsOneOrTheOther
is_one_or_the_other facts answers history base at =
    All-weaker (IsAnsweredAt facts history) (λ one. IsDefinedAt facts history one ⊎ IsExcused facts one.asked one.reply)
    (one_or_the_other facts history) answers at.replies

-- a push that is settled is told what became of it, and no failure
settled_no_failure : (limit : ℕ) (history next : List Push) (push : Push) (least : ℕ) (verdict : Verdict) (form : PushForm) (now : ℕ) (close : Bool)
    → IsSettled limit history push least verdict next → (reply_for_verdict verdict form now close).status ≢ InternalServerError
settled_no_failure limit history next push least (FrontAhead asked front) form now close settled = λ is. cc
settled_no_failure limit history next push least (Kept front) form now close settled = λ is. cc
settled_no_failure limit history next push least (OverLimit kept adds told front) form now close settled = λ is. cc
settled_no_failure limit history next push least Memory form now close settled = absurd settled

pub is_never_both : IsNeverBoth
is_never_both facts history next one (inl (is, stays)) excused = never_both facts one.asked history one.reply is excused
is_never_both facts history next one (inr (form, push, verdict, write, settled, told)) excused =
    settled_no_failure (facts.limit push.tenant) history next push (least_front one.asked) verdict form one.asked.moment one.asked.close settled
    (ap (λ (r : Reply). r.status) (sym told) ∙ ap (λ (r : Reply). r.status) excused.1)

-- ---- the account

pub keeps_account : KeepsAccount
keeps_account facts base [] final same = ([], same ∙ sym (append-nil base), refl)
keeps_account facts base (one ∷ more) final (exchange, turn) =
    by (keeps_account facts one.next more final turn) (keeps_or_stays facts base one.next one.answer exchange)
  where
    by : IsAccount facts one.next final (answers_of more) → Keeps facts base one.answer one.next ⊎ ((¬ (IsAcknowledged facts one.answer)) × (one.next ≡ base))
        → IsAccount facts base final (one.answer ∷ answers_of more)
    by (kept, ends, are) (inl (form, push, write, ok, front, is)) = (
      push ∷ kept,
      ends ∙ ap (λ (first : List Push). first ++ kept) is ∙ append_assoc base (push ∷ []) kept,
      inl (form, push, kept, refl, write, ((form, push, write), ok), are),
    )
    by (kept, ends, are) (inr (none, stays)) = (kept, ends ∙ ap (λ (first : List Push). first ++ kept) stays, inr (none, are))
