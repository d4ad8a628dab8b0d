-- What is refused, or taken, stays so where more bytes come.
use Rattle.std.proofs.Common.{◌≡◌, ℕ, ◌≤◌, ◌<◌, List, [], ◌++◌, length, refl, sym, subst, ap, ◌∙◌, append_assoc, append-nil, length-append, arith, inl, inr, ⊎_elim}
use Rattle.std.proofs.lemmas.Bool.{cases_lt}
use Rattle.std.proofs.lemmas.List.{take-append-le}
use Rattle.httparse.specs.Grammar.{ReadsRequest, HasNoRequest, NeverHasRequest}
use Rattle.http_session.specs.Limits.{most_head_bytes, most_headers}
use Rattle.http_session.specs.Heads.{IsHeadTooLarge}
use Rattle.http_session.specs.Asked.{Asked}
use Rattle.http_session.specs.Takes.{HasBadLength, IsBetween, IsBad, IsAtEnd, Ending, done, closing, bad, EndsAs}
use Rattle.http_session.specs.TakesLaws.{TakesStay, EndedOfAll, RefusedOfAll}
use Rattle.http_session.specs.declared.bad_request.BadRequest.{BadRequest}
use Rattle.http_session.specs.declared.bad_request.BadRequest.TheVariants.{Malformed, HeadTooLarge, BodyTooLarge, Chunked, CutOff}
use Rattle.http_session.proofs.NewlineLemmas.{after-append, head_has_come}
use Rattle.http_session.proofs.RequestLemmas.{head_stays}
use Rattle.http_session.proofs.RequestsLemmas.{requests_stay}
use Rattle.http_session.proofs.TakesLemmas.{all_of}

refused_stays : (bytes more : List ℕ) → NeverHasRequest bytes → NeverHasRequest (bytes ++ more)
refused_stays bytes more refused further head rest reads =
    let P : List ℕ → Type 0 = λ xs. ReadsRequest xs head rest in
    refused (more ++ further) head rest (subst P (append_assoc bytes more further) reads)

bad_length_stays : (bytes more : List ℕ) (e : BadRequest) → HasBadLength bytes e → HasBadLength (bytes ++ more) e
bad_length_stays bytes more e (head, rest, begins, wrong) = (head, rest ++ more, head_stays bytes more head rest begins, wrong)

large_stays : (bytes more : List ℕ) → IsHeadTooLarge bytes → IsHeadTooLarge (bytes ++ more)
large_stays bytes more (inl (long, none)) =
    inl (omega (arith, long, length-append bytes more), subst HasNoRequest (sym (take-append-le most_head_bytes bytes more long)) none)
large_stays bytes more (inr (many, over)) = inr (
  omega (arith, many, after-append bytes more),
  λ head rest reads. ⊎_elim
      (λ (enough : most_headers < length head.fields). enough)
      (λ (few : length head.fields ≤ most_headers). let (left, here) = head_has_come bytes more head rest many few reads in absurd (omega (arith, few, over head left here)))
      (cases_lt most_headers (length head.fields)),
)

nothing_more : (bytes more : List ℕ) → more ≡ [] → bytes ≡ bytes ++ more
nothing_more bytes more none = sym (append-nil bytes) ∙ ap (λ (xs : List ℕ). bytes ++ xs) (sym none)

-- bad bytes stay bad for the same reason, those that are cut off where no more come
pub bad_stays : (bytes more : List ℕ) (e : BadRequest) → IsBad bytes e → (e ≡ CutOff → more ≡ []) → IsBad (bytes ++ more) e
bad_stays bytes more Malformed (inl refused) end = inl (refused_stays bytes more refused)
bad_stays bytes more Malformed (inr wrong) end = inr (bad_length_stays bytes more Malformed wrong)
bad_stays bytes more HeadTooLarge large end = large_stays bytes more large
bad_stays bytes more BodyTooLarge wrong end = bad_length_stays bytes more BodyTooLarge wrong
bad_stays bytes more Chunked wrong end = bad_length_stays bytes more Chunked wrong
bad_stays bytes more CutOff inside end =
    let P : List ℕ → Type 0 = λ xs. IsBad xs CutOff in subst P (nothing_more bytes more (end refl)) inside

ends_stay : (requests : List Asked) (rest more : List ℕ) (ending : Ending) → EndsAs requests rest ending → (IsAtEnd ending → more ≡ []) →
    EndsAs requests (rest ++ more) ending
ends_stay requests rest more done ends end = (ends.0, subst IsBetween (nothing_more rest more (end (inl refl))) ends.1)
ends_stay requests rest more closing ends end = ends
ends_stay requests rest more (bad e) ends end = (ends.0, bad_stays rest more e ends.1 (λ cut. end (inr (ap bad cut))))

pub takes_stay : TakesStay
takes_stay number moment bytes more requests ending (rest, are, ends) end =
    (rest ++ more, requests_stay number moment bytes requests rest more are, ends_stay requests rest more ending ends end)

pub ended_of_all : EndedOfAll
ended_of_all old new before now (piece, took, (between, none)) =
    subst IsBetween (nothing_more (old.held ++ piece) now.to_come none ∙ all_of old.held piece before now took) between

pub refused_of_all : RefusedOfAll
refused_of_all old new before now reason (piece, took, (is_bad, cut)) =
    let P : List ℕ → Type 0 = λ xs. IsBad xs reason in
    subst P (all_of old.held piece before now took) (bad_stays (old.held ++ piece) now.to_come reason is_bad cut)
