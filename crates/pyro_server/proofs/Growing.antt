-- The history only grows.
use Rattle.std.proofs.Common.{◌≡◌, ◌++◌, ◌∙◌, ℕ, List, [], ◌∷◌, refl, sym, ap, inl, inr, append-nil, append_assoc, true, arith, length-append}
use Rattle.std.specs.Prelude.{nat_eq}
use Rattle.std.specs.Cmp.Lexicographic.{pointwise, nat_list_eq_equiv}
use Rattle.std.proofs.lemmas.List.Elements.{filter-append}
use Rattle.push_history.specs.History.{pushes_of}
use Rattle.http_session.specs.Asked.{Asked}
use Rattle.http_session.specs.declared.reply.Reply.{Reply}
use Rattle.profile_model.specs.declared.push.Push.{Push}
use Rattle.request_meaning.specs.Facts.{Facts}
use Rattle.request_meaning.specs.Forms.{least_front}
use Rattle.api_replies.specs.declared.verdict.Verdict.{Verdict}
use Rattle.api_replies.specs.declared.verdict.Verdict.TheVariants.{Kept, FrontAhead, OverLimit, Memory}
use Rattle.pyro_server.specs.Settled.{IsSettled}
use Rattle.pyro_server.specs.Served.{Exchange, IsExchange, InTurn}
use Rattle.pyro_server.specs.ServedLaws.{HistoryGrows, KeepsItsPlace}

-- a list that stays has nothing more at its end
stays : (history next : List Push) → next ≡ history → (later : List Push) × (next ≡ history ++ later)
stays history next same = ([], same ∙ sym (append-nil history))

settled_grows : (limit : ℕ) (history next : List Push) (push : Push) (least : ℕ) (verdict : Verdict) → IsSettled limit history push least verdict next
    → (later : List Push) × (next ≡ history ++ later)
settled_grows limit history next push least (Kept front) settled = (push ∷ [], settled.3)
settled_grows limit history next push least (FrontAhead asked front) settled = stays history next settled.3
settled_grows limit history next push least (OverLimit kept adds told front) settled = stays history next settled.6
settled_grows limit history next push least Memory settled = absurd settled

pub exchange_grows : (facts : Facts) (asked : Asked) (history next : List Push) (reply : Reply) → IsExchange facts asked history reply next
    → (later : List Push) × (next ≡ history ++ later)
exchange_grows facts asked history next reply (inl (inl (is, same))) = stays history next same
exchange_grows facts asked history next reply (inl (inr (form, push, verdict, write, settled, told))) =
    settled_grows (facts.limit push.tenant) history next push (least_front asked) verdict settled
exchange_grows facts asked history next reply (inr (excused, same)) = stays history next same

-- one history grows to the next, and that to the last
pub both : (history next final : List Push) → (later : List Push) × (next ≡ history ++ later) → (later : List Push) × (final ≡ next ++ later)
    → (later : List Push) × (final ≡ history ++ later)
both history next final (one, is) (two, ends) = (one ++ two, ends ∙ ap (λ front. front ++ two) is ∙ append_assoc history one two)

pub in_turn_grows : (facts : Facts) (history : List Push) (exchanges : List Exchange) (final : List Push) → InTurn facts history exchanges final
    → (later : List Push) × (final ≡ history ++ later)
in_turn_grows facts history [] final same = stays history final same
in_turn_grows facts history (one ∷ more) final (exchange, turn) =
    both history one.next final (exchange_grows facts one.answer.asked history one.next one.answer.reply exchange) (in_turn_grows facts one.next more final turn)

pub history_grows : HistoryGrows
history_grows facts history exchanges final turn = in_turn_grows facts history exchanges final turn

-- a push is one of its tenant's
pub own : (push : Push) → pushes_of (push ∷ []) push.tenant ≡ push ∷ []
own push = let same : pointwise nat_eq push.tenant push.tenant ≡ true = nat_list_eq_equiv.refl push.tenant in rw same refl

pub keeps_its_place : KeepsItsPlace
keeps_its_place limit history next later push least front (enough, told, room, kept) =
    let mine = λ (one : Push). pointwise nat_eq one.tenant push.tenant in
    let count = length-append (pushes_of history push.tenant) (push ∷ []) in (
      omega arith,
      rw kept (filter-append mine (history ++ push ∷ []) later
          ∙ ap (λ front. front ++ pushes_of later push.tenant) (filter-append mine history (push ∷ []) ∙ ap (λ last. pushes_of history push.tenant ++ last) (own push))),
    )
