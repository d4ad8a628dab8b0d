-- What an exchange and a whole run say of the history, tenant by tenant.
use Rattle.std.proofs.Common.{◌≡◌, ◌+◌, ◌<◌, ◌≤◌, ◌∙◌, ℕ, zero, suc, Bool, true, false, cond, List, [], ◌∷◌, ◌++◌, length, take, refl, sym, ap, subst, inl, inr, arith, append_assoc, length-append}
use Rattle.std.specs.Prelude.{◌⊎◌, filter, Option, Some, None}
use Rattle.std.proofs.lemmas.List.Elements.{filter-append}
use Rattle.std.proofs.Math.Seq.{take-append_seam, take-nil}
use Rattle.http_session.specs.declared.reply.Reply.{Reply}
use Rattle.http_session.specs.declared.reply.Status.TheVariants.{Ok}
use Rattle.push_history.specs.History.{front_of, pushes_of, pushes_total}
use Rattle.profile_model.specs.declared.push.Push.{Push}
use Rattle.request_meaning.specs.Facts.{Facts}
use Rattle.request_meaning.specs.Forms.{least_front, tenant_of}
use Rattle.request_meaning.specs.Meanings.{IsWrite}
use Rattle.api_replies.proofs.ReplyLemmas.{answers_no_write, own_again, reply_alike, shows_its_front, writer_is_named}
use Rattle.request_meaning.specs.declared.form.PushForm.{PushForm}
use Rattle.api_replies.specs.declared.verdict.Verdict.{Verdict}
use Rattle.api_replies.specs.declared.verdict.Verdict.TheVariants.{Kept, FrontAhead, OverLimit, Memory}
use Rattle.pyro_server.specs.Given.{Answer}
use Rattle.pyro_server.specs.Settled.{IsSettled}
use Rattle.pyro_server.specs.Served.{IsExchange}
use Rattle.pyro_server.specs.ServedAt.{IsAcknowledged, IsAnsweredAt, IsAnsweredOver, IsKept, Shows, StandsAt, own_pushes}
use Rattle.pyro_server.specs.ServedLaws.{AnswersAreIsolated, FrontIsPrefix, RepliesAreIsolated}
use Rattle.pyro_server.proofs.Growing.{own}

-- ---- isolation

-- of a request's own pushes its tenant's are all
own_stays : (history : List Push) (named : Option (List ℕ)) (tenant : List ℕ) → named ≡ Some tenant
    → pushes_of history tenant ≡ pushes_of (own_pushes history named) tenant
own_stays history named tenant is = sym (ap (λ (own : List Push). pushes_of own tenant) (ap (own_pushes history) is) ∙ own_again history tenant)

-- what becomes of a push depends on the pushes of its tenant alone
settled_alike : (limit : ℕ) (history other next : List Push) (push : Push) (least : ℕ) (verdict : Verdict) → pushes_of history push.tenant ≡ pushes_of other push.tenant
    → IsSettled limit history push least verdict next → (left : List Push) × IsSettled limit other push least verdict left
settled_alike limit history other next push least (Kept front) same (enough, told, room, kept) =
    (other ++ push ∷ [], (subst (λ (n : ℕ). least ≤ n) (ap (λ (own : List Push). length own) same) enough, told ∙ ap (λ (own : List Push). length own + 1) same, rw same at room, refl))
settled_alike limit history other next push least (FrontAhead asked front) same (ahead, is, told, stays) =
    (other, (subst (λ (n : ℕ). n < least) (ap (λ (own : List Push). length own) same) ahead, is, told ∙ ap (λ (own : List Push). length own) same, refl))
settled_alike limit history other next push least (OverLimit kept adds shown front) same (enough, kept_is, adds_is, limit_is, told, over, stays) =
    (other, (subst (λ (n : ℕ). least ≤ n) (ap (λ (own : List Push). length own) same) enough, kept_is ∙ ap pushes_total same, adds_is, limit_is, told ∙ ap (λ (own : List Push). length own) same, over, refl))
settled_alike limit history other next push least Memory same settled = absurd settled

answered_alike : (facts : Facts) (history other : List Push) (one : Answer)
    → ((tenant : List ℕ) → tenant_of facts one.asked ≡ Some tenant → pushes_of history tenant ≡ pushes_of other tenant)
    → IsAnsweredOver facts history one → IsAnsweredOver facts other one
answered_alike facts history other one same (next, inl (inl (is, stays))) = (other, inl (inl (reply_alike facts one.asked history other one.reply same is, refl)))
answered_alike facts history other one same (next, inl (inr (form, push, verdict, write, settled, told))) =
    let there =
    settled_alike (facts.limit push.tenant) history other next push (least_front one.asked) verdict (same push.tenant (writer_is_named facts one.asked form push write)) settled in
    (there.0, inl (inr (form, push, verdict, write, there.1, told)))
answered_alike facts history other one same (next, inr (excused, stays)) = (other, inr (excused, refl))

pub replies_are_isolated : RepliesAreIsolated
replies_are_isolated facts asked history reply =
    let named = tenant_of facts asked in
    let own = own_pushes history named in (
      reply_alike facts asked history own reply (λ tenant is. own_stays history named tenant is),
      reply_alike facts asked own history reply (λ tenant is. sym (own_stays history named tenant is)),
    )

pub answers_are_isolated : AnswersAreIsolated
answers_are_isolated facts history one =
    let named = tenant_of facts one.asked in
    let own = own_pushes history named in (
      answered_alike facts history own one (λ tenant is. own_stays history named tenant is),
      answered_alike facts own history one (λ tenant is. sym (own_stays history named tenant is)),
    )

-- ---- fronts and prefixes

-- of a longer history a request's own pushes are those of the shorter one, and then the others
pub own-append : (history later : List Push) (named : Option (List ℕ)) → own_pushes (history ++ later) named ≡ own_pushes history named ++ own_pushes later named
own-append history later None = refl
own-append history later (Some tenant) = filter-append _ history later

filter-takes : {X : Type 0} (p : X → Bool) (x : X) (xs : List X) → p x ≡ true → filter p (x ∷ xs) ≡ x ∷ filter p xs
filter-takes p x xs is = rw is refl

filter-leaves : {X : Type 0} (p : X → Bool) (x : X) (xs : List X) → p x ≡ false → filter p (x ∷ xs) ≡ filter p xs
filter-leaves p x xs is = rw is refl

-- some of the first that pass are those of a front
filter_front : {X : Type 0} (p : X → Bool) (xs : List X) (n : ℕ) → n ≤ length (filter p xs)
    → (before : List X) × (after : List X) × (xs ≡ before ++ after) × (filter p before ≡ take n (filter p xs))
filter_front p [] n few = ([], [], refl, sym (take-nil n))
filter_front p (x ∷ xs) zero few = ([], x ∷ xs, refl, refl)
filter_front {X} p (x ∷ xs) (suc n) few = by (p x) refl few (λ m. filter_front p xs m)
  where
    by : (kept : Bool) → p x ≡ kept → suc n ≤ length (cond kept (x ∷ filter p xs) (filter p xs))
        → ((m : ℕ) → m ≤ length (filter p xs) → (before : List X) × (after : List X) × (xs ≡ before ++ after) × (filter p before ≡ take m (filter p xs)))
        → (before : List X) × (after : List X) × (x ∷ xs ≡ before ++ after) × (filter p before ≡ take (suc n) (cond kept (x ∷ filter p xs) (filter p xs)))
    by true is fits front_of_rest =
        let front = front_of_rest n (omega arith) in
        (x ∷ front.0, front.1, ap (λ ys. x ∷ ys) front.2, filter-takes p x front.0 is ∙ ap (λ ys. x ∷ ys) front.3)
    by false is fits front_of_rest =
        let front = front_of_rest (suc n) fits in
        (x ∷ front.0, front.1, ap (λ ys. x ∷ ys) front.2, filter-leaves p x front.0 is ∙ front.3)

own_front : (history : List Push) (named : Option (List ℕ)) (front : ℕ) → front ≤ length (own_pushes history named)
    → (before : List Push) × (after : List Push) × (history ≡ before ++ after) × (own_pushes before named ≡ take front (own_pushes history named))
own_front history None front few = ([], history, refl, sym (take-nil front))
own_front history (Some tenant) front few = filter_front _ history front few

-- a reply over a prefix is one over a front of the tenant's pushes
pub answered_at : (facts : Facts) (before after : List Push) (one : Answer) → IsAnsweredOver facts before one → IsAnsweredAt facts (before ++ after) one
answered_at facts before after one answered =
    let named = tenant_of facts one.asked in
    let own = own_pushes before named in
    let more = own-append before after named in
    let front : take (length own) (own_pushes (before ++ after) named) ≡ own = ap (take (length own)) more ∙ take-append_seam own (own_pushes after named) in
    let long : length (own_pushes (before ++ after) named) ≡ length own + length (own_pushes after named) = ap length more ∙ length-append own (own_pushes after named) in
    let P : List Push → Type 0 = λ pushes. IsAnsweredOver facts pushes one in
    (length own, omega arith, subst P (sym front) ((answers_are_isolated facts before one).0 answered))

pub front_is_prefix : FrontIsPrefix
front_is_prefix facts history one = (
  λ (front, few, answered).
      let named = tenant_of facts one.asked in
      let cut = own_front history named front few in
      let P : List Push → Type 0 = λ pushes. IsAnsweredOver facts pushes one in
      (cut.0, cut.1, cut.2, (answers_are_isolated facts cut.0 one).1 (subst P (sym cut.3) answered)),
  λ (before, after, is, answered).
      let P : List Push → Type 0 = λ pushes. IsAnsweredAt facts pushes one in subst P (sym is) (answered_at facts before after one answered),
)

-- ---- what one exchange keeps

-- the push that an exchange kept and told so
abbrev pub Keeps : Facts → List Push → Answer → List Push → Type 0
Keeps facts history one next =
    (form : PushForm) × (push : Push)
    × IsWrite facts one.asked form push × (one.reply.status ≡ Ok) × (one.reply.front ≡ Some (front_of history push.tenant + 1)) × (next ≡ history ++ push ∷ [])

-- an exchange keeps a push and tells it, or acknowledges none and leaves the history
pub keeps_or_stays : (facts : Facts) (history next : List Push) (one : Answer) → IsExchange facts one.asked history one.reply next
    → Keeps facts history one next ⊎ ((¬ (IsAcknowledged facts one)) × (next ≡ history))
keeps_or_stays facts history next one (inl (inl (is, stays))) =
    inr (λ (write, ok). answers_no_write facts one.asked history one.reply write.0 write.1 is write.2 ok, stays)
keeps_or_stays facts history next one (inl (inr (form, push, Kept front, write, (enough, is, room, kept), told))) =
    inl (form, push, write, ap (λ (r : Reply). r.status) told, ap (λ (r : Reply). r.front) told ∙ ap (λ n. Some n) is, kept)
keeps_or_stays facts history next one (inl (inr (form, push, FrontAhead asked front, write, settled, told))) =
    inr (λ (write, ok). (let is = ap (λ (r : Reply). r.status) told in cc), settled.3)
keeps_or_stays facts history next one (inl (inr (form, push, OverLimit kept adds limit front, write, settled, told))) =
    inr (λ (write, ok). (let is = ap (λ (r : Reply). r.status) told in cc), settled.6)
keeps_or_stays facts history next one (inl (inr (form, push, Memory, write, settled, told))) = absurd settled
keeps_or_stays facts history next one (inr ((reaches, told), stays)) =
    inr (λ (write, ok). (let is = ap (λ (r : Reply). r.status) told in cc), stays)

-- a push that was told as kept stands in every later history, behind a base of the one before
pub kept_stands : (facts : Facts) (base middle next later : List Push) (one : Answer) → IsExchange facts one.asked (base ++ middle) one.reply next
    → IsKept facts base (next ++ later) one
kept_stands facts base middle next later one exchange acknowledged = by (keeps_or_stays facts (base ++ middle) next one exchange)
  where
    by : Keeps facts (base ++ middle) one next ⊎ ((¬ (IsAcknowledged facts one)) × (next ≡ base ++ middle))
        → (form : PushForm) × (push : Push) × (place : ℕ)
        × IsWrite facts one.asked form push × (one.reply.front ≡ Some (place + 1)) × StandsAt base (next ++ later) push place
    by (inl (form, push, write, ok, front, kept)) = (
      form,
      push,
      front_of (base ++ middle) push.tenant,
      write,
      front,
      record {
        before = base ++ middle;
        after = later;
        is = ap (λ (pushes : List Push). pushes ++ later) kept ∙ append_assoc (base ++ middle) (push ∷ []) later;
        behind = let long = length-append base middle in omega arith;
        at = refl;
      },
    )
    by (inr (none, stays)) = absurd (none acknowledged)

-- ---- what one exchange shows

-- a tenant's front of a longer history is no less
pub front_grows : (history later : List Push) (tenant : List ℕ) → front_of history tenant ≤ front_of (history ++ later) tenant
front_grows history later tenant =
    let long : front_of (history ++ later) tenant ≡ front_of history tenant + front_of later tenant =
    ap length (filter-append _ history later) ∙ length-append (pushes_of history tenant) (pushes_of later tenant) in omega arith

-- one push more is one more of its tenant
front_with : (history : List Push) (push : Push) → front_of (history ++ push ∷ []) push.tenant ≡ front_of history push.tenant + 1
front_with history push =
    ap length (filter-append _ history (push ∷ []) ∙ ap (λ (last : List Push). pushes_of history push.tenant ++ last) (own push))
    ∙ length-append (pushes_of history push.tenant) (push ∷ [])

one_name : (a b : List ℕ) (named : Option (List ℕ)) → named ≡ Some a → named ≡ Some b → a ≡ b
one_name a b named is other = cc

one_front : (a b : ℕ) (shown : Option ℕ) → shown ≡ Some a → shown ≡ Some b → a ≡ b
one_front a b shown is other = cc

-- a front that is shown lies between the tenant's before and after, and past the one before where a push was kept
pub between_fronts : (facts : Facts) (history next : List Push) (one : Answer) (tenant : List ℕ) (front : ℕ) → IsExchange facts one.asked history one.reply next
    → Shows facts one tenant front → (front_of history tenant ≤ front) × (IsAcknowledged facts one → front_of history tenant < front) × (front ≤ front_of next tenant)
between_fronts facts history next one tenant front (inl (inl (is, stays))) (named, shown) =
    let own_one = shows_its_front facts one.asked history one.reply front is shown in
    let same = one_name own_one.0 tenant (tenant_of facts one.asked) own_one.1 named in
    let told : front ≡ front_of history tenant = own_one.2 ∙ ap (front_of history) same in
    let left : front_of next tenant ≡ front_of history tenant = ap (λ (pushes : List Push). front_of pushes tenant) stays in
    (omega arith, λ (write, ok). absurd (answers_no_write facts one.asked history one.reply write.0 write.1 is write.2 ok), omega arith)
between_fronts facts history next one tenant front (inl (inr (form, push, Kept kept_front, write, (enough, is, room, kept), told))) (named, shown) =
    let same = one_name push.tenant tenant (tenant_of facts one.asked) (writer_is_named facts one.asked form push write) named in
    let fronts = one_front kept_front front one.reply.front (ap (λ (r : Reply). r.front) told) shown in
    let before : front_of history push.tenant ≡ front_of history tenant = ap (front_of history) same in
    let after : front_of next tenant ≡ front_of history push.tenant + 1 =
    ap (front_of next) (sym same) ∙ ap (λ (pushes : List Push). front_of pushes push.tenant) kept ∙ front_with history push in
    (omega arith, λ acknowledged. omega arith, omega arith)
between_fronts facts history next one tenant front (inl (inr (form, push, FrontAhead asked old_front, write, (ahead, asked_is, is, stays), told))) (named, shown) =
    let same = one_name push.tenant tenant (tenant_of facts one.asked) (writer_is_named facts one.asked form push write) named in
    let fronts = one_front old_front front one.reply.front (ap (λ (r : Reply). r.front) told) shown in
    let before : front_of history push.tenant ≡ front_of history tenant = ap (front_of history) same in
    let left : front_of next tenant ≡ front_of history tenant = ap (λ (pushes : List Push). front_of pushes tenant) stays in
    (omega arith, λ (other, ok). (let status = ap (λ (r : Reply). r.status) told in cc), omega arith)
between_fronts facts history next one tenant front (inl (inr (form, push, OverLimit kept adds limit old_front, write, (enough, kept_is, adds_is, limit_is, is, over, stays), told))) (named, shown) =
    let same = one_name push.tenant tenant (tenant_of facts one.asked) (writer_is_named facts one.asked form push write) named in
    let fronts = one_front old_front front one.reply.front (ap (λ (r : Reply). r.front) told) shown in
    let before : front_of history push.tenant ≡ front_of history tenant = ap (front_of history) same in
    let left : front_of next tenant ≡ front_of history tenant = ap (λ (pushes : List Push). front_of pushes tenant) stays in
    (omega arith, λ (other, ok). (let status = ap (λ (r : Reply). r.status) told in cc), omega arith)
between_fronts facts history next one tenant front (inl (inr (form, push, Memory, write, settled, told))) (named, shown) = absurd settled
between_fronts facts history next one tenant front (inr ((reaches, told), stays)) (named, shown) =
    let none = ap (λ (r : Reply). r.front) told in cc
