-- A connection's bytes have one list of whole requests, however much of them has come.
use Rattle.std.proofs.Common.{◌≡◌, ℕ, ◌+◌, ◌-◌, ◌≤◌, List, [], ◌∷◌, ◌++◌, length, take, refl, sym, subst, ap, ap₂, ◌∙◌, append_assoc, append-nil, length-append, arith, Result, Ok, Err, inl, inr, ⊎_elim, true, false}
use Rattle.std.proofs.lemmas.List.{take_at, append_cancel_left}
use Rattle.std.proofs.Math.Seq.{take-append-add}
use Rattle.std.proofs.lemmas.Bool.{true≢false, false_from_ne_true}
use Rattle.httparse.specs.Grammar.{RequestHead, print_request, ReadsRequest, HasNoRequest, NeverHasRequest}
use Rattle.httparse.proofs.GrammarLemmas.{request_unique}
use Rattle.link_trait.specs.Link.{Told, Took}
use Rattle.http_session.specs.Limits.{most_head_bytes}
use Rattle.http_session.specs.Heads.{BeginsWithHead, IsHeadTooLarge, headers_of}
use Rattle.http_session.specs.Framing.{Framing, sized, framing_of, IsBody, IsCutBody}
use Rattle.http_session.specs.Asked.{Asked, asked_of}
use Rattle.http_session.specs.Takes.{IsWhole, HasBadLength, IsInside, IsBad, Ending, done, closing, bad, AreRequests, is_closed, EndsAs}
use Rattle.http_session.specs.TakesLaws.{WholeStays, WholeIsOne, RequestsAreOne, TakenOfAll}
use Rattle.http_session.specs.declared.bad_request.BadRequest.{BadRequest}
use Rattle.http_session.specs.declared.bad_request.BadRequest.TheVariants.{Malformed, HeadTooLarge, BodyTooLarge, Chunked, CutOff}
use Rattle.http_session.proofs.RequestLemmas.{head_stays}

-- a body stays where more bytes come
pub body_stays : (framing : Framing) (bytes body rest more : List ℕ) → IsBody framing bytes body rest → IsBody framing (bytes ++ more) body (rest ++ more)
body_stays (sized size) bytes body rest more (long, is) = (long, ap (λ (xs : List ℕ). xs ++ more) is ∙ append_assoc body rest more)

pub whole_stays : WholeStays
whole_stays number moment bytes more rest asked (head, framing, body, after, begins, framed, here, is) =
    (head, framing, body, after ++ more, head_stays bytes more head after begins, framed, body_stays framing after body rest more here, is)

-- the bytes begin with at most one head
pub head_is_one : (bytes : List ℕ) (head other : RequestHead) (rest left : List ℕ) → BeginsWithHead bytes head rest → BeginsWithHead bytes other left →
    (head ≡ other) × (rest ≡ left)
head_is_one bytes head other rest left a b = request_unique bytes head other rest left a.reads b.reads

-- two lists that begin alike, with fronts of one length
same_fronts : (a b x y : List ℕ) → length a ≡ length b → a ++ x ≡ b ++ y → (a ≡ b) × (x ≡ y)
same_fronts a b x y long is =
    let front : a ≡ b = sym (take_at a x (length b) long) ∙ ap (λ (xs : List ℕ). take (length b) xs) is ∙ take_at b y (length b) refl in
    (front, append_cancel_left b x y (ap (λ (xs : List ℕ). xs ++ x) (sym front) ∙ is))

-- a framing tells one body
body_is_one : (framing : Framing) (bytes body other rest left : List ℕ) → IsBody framing bytes body rest → IsBody framing bytes other left →
    (body ≡ other) × (rest ≡ left)
body_is_one (sized size) bytes body other rest left (long, is) (long', is') = same_fronts body other rest left (long ∙ sym long') (sym is ∙ is')

-- and no whole body is cut off
body_is_uncut : (framing : Framing) (bytes body rest : List ℕ) → IsBody framing bytes body rest → IsCutBody framing bytes → ⊥
body_is_uncut (sized size) bytes body rest (long, is) short = omega (arith, long, short, ap length is, length-append body rest)

-- an answer is one Ok, and no Err
pub one_ok : (r : Result Framing BadRequest) (f g : Framing) → r ≡ Ok f → r ≡ Ok g → f ≡ g
one_ok r f g a b = cc

pub ok_is_no_err : (r : Result Framing BadRequest) (f : Framing) (e : BadRequest) → r ≡ Ok f → r ≡ Err e → ⊥
ok_is_no_err r f e a b = cc

-- the headers of one head say one framing
one_framing : (head other : RequestHead) (f g : Framing) → head ≡ other → framing_of (headers_of head) ≡ Ok f → framing_of (headers_of other) ≡ Ok g → f ≡ g
one_framing head other f g same a b = one_ok (framing_of (headers_of head)) f g a (ap (λ h. framing_of (headers_of h)) same ∙ b)

pub whole_is_one : WholeIsOne
whole_is_one number moment bytes rest left asked other (head, framing, body, after, begins, framed, here, is) (head', framing', body', after', begins', framed', here', is') =
    let one = head_is_one bytes head head' after after' begins begins' in
    let same = one_framing head head' framing framing' one.0 framed framed' in
    let P : Framing → Type 0 = λ f. IsBody f after body' left in
    let Q : List ℕ → Type 0 = λ xs. IsBody framing' xs body' left in
    let parts = body_is_one framing after body body' rest left here (subst P (sym same) (subst Q (sym one.1) here')) in
    (is ∙ ap₂ (λ h b. asked_of number moment h b) one.0 parts.0 ∙ sym is', parts.1)

-- ---- a whole request, and bytes that begin with none

-- a head stands in as many bytes as it may have
short_head : (bytes : List ℕ) (head : RequestHead) (rest : List ℕ) → BeginsWithHead bytes head rest → most_head_bytes ≤ length bytes →
    (left : List ℕ) × ReadsRequest (take most_head_bytes bytes) head left
short_head bytes head rest begins long =
    let text = print_request head in
    let more : ℕ = most_head_bytes - length text in (
      take more rest,
      (
        begins.reads.0,
        ap (λ (xs : List ℕ). take most_head_bytes xs) begins.reads.1
            ∙ ap (λ n. take n (text ++ rest)) (let all : most_head_bytes ≡ length text + more = omega (arith, begins.short) in all)
            ∙ take-append-add text rest more,
      ),
    )

pub no_head : (bytes : List ℕ) (head : RequestHead) (rest : List ℕ) → BeginsWithHead bytes head rest → IsHeadTooLarge bytes → ⊥
no_head bytes head rest begins large =
    ⊎_elim (λ (none : (most_head_bytes ≤ length bytes) × HasNoRequest (take most_head_bytes bytes)). let short = short_head bytes head rest begins none.0 in none.1 head short.0 short.1)
    (λ many. omega (arith, many.1 head rest begins.reads, begins.few))
    large

-- a whole request's headers say a framing
no_bad_length : (number moment : ℕ) (bytes rest : List ℕ) (asked : Asked) (e : BadRequest) → IsWhole number moment bytes asked rest → HasBadLength bytes e → ⊥
no_bad_length number moment bytes rest asked e (head, framing, body, after, begins, framed, here, is) (head', rest', begins', wrong) =
    let one = head_is_one bytes head head' after rest' begins begins' in
    ok_is_no_err (framing_of (headers_of head)) framing e framed (ap (λ h. framing_of (headers_of h)) one.0 ∙ wrong)

-- a whole request is no part of one
not_inside : (number moment : ℕ) (bytes rest : List ℕ) (asked : Asked) → IsWhole number moment bytes asked rest → IsInside bytes → ⊥
not_inside number moment bytes rest asked (head, framing, body, after, begins, framed, here, is) (inl (text, unfinished)) = unfinished.none head after begins.reads
not_inside number moment bytes rest asked (head, framing, body, after, begins, framed, here, is) (inr (head', rest', framing', begins', framed', short)) =
    let one = head_is_one bytes head head' after rest' begins begins' in
    let same = one_framing head head' framing framing' one.0 framed framed' in
    let P : Framing → Type 0 = λ f. IsCutBody f after in
    let Q : List ℕ → Type 0 = λ xs. IsCutBody framing' xs in
    body_is_uncut framing after body rest here (subst P (sym same) (subst Q (sym one.1) short))

pub never : (bytes : List ℕ) (head : RequestHead) (rest : List ℕ) → ReadsRequest bytes head rest → NeverHasRequest bytes → ⊥
never bytes head rest reads none = none [] head rest (let P : List ℕ → Type 0 = λ xs. ReadsRequest xs head rest in subst P (sym (append-nil bytes)) reads)

-- bytes that begin with a whole request aren't bad
not_bad : (number moment : ℕ) (bytes rest : List ℕ) (asked : Asked) (e : BadRequest) → IsWhole number moment bytes asked rest → IsBad bytes e → ⊥
not_bad number moment bytes rest asked Malformed whole (inl none) = never bytes whole.0 whole.3 whole.4.reads none
not_bad number moment bytes rest asked Malformed whole (inr wrong) = no_bad_length number moment bytes rest asked Malformed whole wrong
not_bad number moment bytes rest asked HeadTooLarge whole large = no_head bytes whole.0 whole.3 whole.4 large
not_bad number moment bytes rest asked BodyTooLarge whole wrong = no_bad_length number moment bytes rest asked BodyTooLarge whole wrong
not_bad number moment bytes rest asked Chunked whole wrong = no_bad_length number moment bytes rest asked Chunked whole wrong
not_bad number moment bytes rest asked CutOff whole inside = not_inside number moment bytes rest asked whole inside

-- nor do they end there, behind requests that don't ask for closing
no_end : (number moment : ℕ) (bytes rest : List ℕ) (asked : Asked) (requests : List Asked) (ending : Ending) → IsWhole number moment bytes asked rest →
    is_closed requests ≡ false → EndsAs requests bytes ending → ⊥
no_end number moment bytes rest asked requests done whole on ends = ends.1.1.none whole.0 whole.3 whole.4.reads
no_end number moment bytes rest asked requests closing whole on ends = true≢false (sym ends ∙ on)
no_end number moment bytes rest asked requests (bad e) whole on ends = not_bad number moment bytes rest asked e whole ends.1

-- ---- the requests

-- a request that another follows doesn't ask for closing
pub leaves_open : (asked other : Asked) (more : List Asked) → (asked.close ≡ true → other ∷ more ≡ []) → asked.close ≡ false
leaves_open asked other more shut = false_from_ne_true asked.close (λ closes. let none : other ∷ more ≡ [] = shut closes in absurd (cc))

-- what an ending says of the requests is whether the last asks for closing
ends_for : (requests others : List Asked) (rest : List ℕ) (ending : Ending) → is_closed others ≡ is_closed requests → EndsAs requests rest ending → EndsAs others rest ending
ends_for requests others rest done same ends = (same ∙ ends.0, ends.1)
ends_for requests others rest closing same ends = same ∙ ends
ends_for requests others rest (bad e) same ends = (same ∙ ends.0, ends.1)

-- bytes that end don't go on with a whole request
no_more : (number moment : ℕ) (bytes rest after : List ℕ) (asked : Asked) (requests : List Asked) (ending : Ending) → IsWhole number moment bytes asked after →
    is_closed requests ≡ false → rest ≡ bytes → EndsAs requests rest ending → ⊥
no_more number moment bytes rest after asked requests ending whole on is ends =
    let P : List ℕ → Type 0 = λ xs. EndsAs requests xs ending in
    no_end number moment bytes after asked requests ending whole on (subst P is ends)

-- two readings of the same bytes are one, up to their rest
pub same_requests : (number moment : ℕ) (bytes : List ℕ) (requests others : List Asked) (rest left : List ℕ) (ending last : Ending) →
    AreRequests number moment bytes requests rest → EndsAs requests rest ending → AreRequests number moment bytes others left → EndsAs others left last →
    (requests ≡ others) × (rest ≡ left)
same_requests number moment bytes [] [] rest left ending last are ends again lasts = (refl, are ∙ sym again)
same_requests number moment bytes [] (r ∷ others) rest left ending last are ends (after, whole, shut, more) lasts =
    absurd (no_more number moment bytes rest after r [] ending whole refl are ends)
same_requests number moment bytes (q ∷ requests) [] rest left ending last (after, whole, shut, more) ends again lasts =
    absurd (no_more number moment bytes left after q [] last whole refl again lasts)
same_requests number moment bytes (q ∷ []) (r ∷ []) rest left ending last (after, whole, shut, are) ends (after', whole', shut', again) lasts =
    let one = whole_is_one number moment bytes after after' q r whole whole' in
    (ap (λ (x : Asked). x ∷ []) one.0, are ∙ one.1 ∙ sym again)
same_requests number moment bytes (q ∷ []) (r ∷ s ∷ others) rest left ending last (after, whole, shut, are) ends (after', whole', shut', (after'', whole'', shut'', more)) lasts =
    let one = whole_is_one number moment bytes after after' q r whole whole' in
    let on : q.close ≡ false = ap (λ (x : Asked). x.close) one.0 ∙ leaves_open r s others shut' in
    absurd (no_more (number + 1) moment after' rest after'' s (q ∷ []) ending whole'' on (are ∙ one.1) ends)
same_requests number moment bytes (q ∷ p ∷ requests) (r ∷ []) rest left ending last (after, whole, shut, (after', whole', shut', more)) ends (after'', whole'', shut'', again) lasts =
    let one = whole_is_one number moment bytes after after'' q r whole whole'' in
    let on : r.close ≡ false = ap (λ (x : Asked). x.close) (sym one.0) ∙ leaves_open q p requests shut in
    absurd (no_more (number + 1) moment after left after' p (r ∷ []) last whole' on (again ∙ sym one.1) lasts)
same_requests number moment bytes (q ∷ p ∷ requests) (r ∷ s ∷ others) rest left ending last (after, whole, shut, are) ends (after', whole', shut', again) lasts =
    let one = whole_is_one number moment bytes after after' q r whole whole' in
    let P : List ℕ → Type 0 = λ xs. AreRequests (number + 1) moment xs (s ∷ others) left in
    let tails = same_requests (number + 1) moment after (p ∷ requests) (s ∷ others) rest left ending last are (ends_for (q ∷ p ∷ requests) (p ∷ requests) rest ending refl ends)
    (subst P (sym one.1) again) (ends_for (r ∷ s ∷ others) (s ∷ others) left last refl lasts) in
    (ap₂ (λ (x : Asked) (xs : List Asked). x ∷ xs) one.0 tails.0, tails.1)

pub requests_are_one : RequestsAreOne
requests_are_one number moment bytes requests others ending last (rest, are, ends) (left, again, lasts) =
    (same_requests number moment bytes requests others rest left ending last are ends again lasts).0

-- ---- what a reader gives

-- what was held and came, and what is still to come, is all
pub all_of : (held piece : List ℕ) (before now : Told) → Took piece before now → (held ++ piece) ++ now.to_come ≡ held ++ before.to_come
all_of held piece before now took = append_assoc held piece now.to_come ∙ ap (λ (xs : List ℕ). held ++ xs) (sym took.to_come)

pub taken_of_all : TakenOfAll
taken_of_all old new before now asked (piece, took, whole) =
    let P : List ℕ → Type 0 = λ xs. IsWhole new.given before.moment xs asked (new.held ++ now.to_come) in
    subst P (all_of old.held piece before now took) (whole_stays new.given before.moment (old.held ++ piece) now.to_come new.held asked whole)
