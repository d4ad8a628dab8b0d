-- A request from what came for its head and for its body.
use Rattle.std.proofs.Common.{◌≡◌, ℕ, List, [], ◌++◌, sym, subst, ap, ◌∙◌, append_assoc, take, Ok, Err, inr}
use Rattle.httparse.specs.Grammar.{RequestHead}
use Rattle.httparse.proofs.GrammarLemmas.{ReadsRequest-append}
use Rattle.link_trait.specs.Link.{Told, Took}
use Rattle.http_session.specs.Pulled.{Pulled}
use Rattle.httparse.specs.declared.spans.HeaderSpan.{HeaderSpan}
use Rattle.httparse.specs.declared.spans.RequestSpans.{RequestSpans}
use Rattle.http_session.specs.HeadRead.{Covers, IsHeadAt}
use Rattle.http_session.specs.Heads.{BeginsWithHead, headers_of}
use Rattle.http_session.specs.Framing.{sized, result_map, body_length_of}
use Rattle.http_session.specs.Asked.{Asked, asked_of}
use Rattle.http_session.specs.Takes.{IsBad, IsPartial}
use Rattle.http_session.specs.NextRequests.{IsBadAt}
use Rattle.http_session.specs.Steps.{StopsAt, BodyStep, RequestStep, IsBodyOf}
use Rattle.http_session.specs.declared.bad_request.BadRequest.{BadRequest}
use Rattle.http_session.specs.declared.bad_request.BadRequest.TheVariants as why
use Rattle.http_session.specs.declared.reader.Stop.{Stop}
use Rattle.http_session.specs.declared.reader.Stop.TheVariants as stop
use Rattle.link_trait.proofs.GoesLemmas.{took_then}

-- a head stays where more bytes come
pub head_stays : (bytes more : List ℕ) (head : RequestHead) (rest : List ℕ) → BeginsWithHead bytes head rest →
    BeginsWithHead (bytes ++ more) head (rest ++ more)
head_stays bytes more head rest b = record { reads = ReadsRequest-append bytes head rest more b.reads; few = b.few; short = b.short }

-- a body was cut off, the link failed, or memory ran out
pub body_stops : (T : Type 0) (view : T → List ℕ) (number size : ℕ) (old held after new : List ℕ) (head : RequestHead) (e : Stop) (a b c : Told) →
    Pulled old held a b → BeginsWithHead held head after → body_length_of (headers_of head) ≡ Ok size →
    BodyStep view size (Err e) after new b c → RequestStep number (Err e) old new a c
body_stops T view number size old held after new head e a b c pulled begins long body =
    (pulled.0 ++ body.0, took_then pulled.0 body.0 a b c pulled.1 body.1, by e body.2)
  where
    by : (e : Stop) → IsBodyOf view size (after ++ body.0) new c (Err e) → StopsAt (old ++ (pulled.0 ++ body.0)) c e
    by stop.End never = absurd never
    by (stop.Bad bad) (is, short, none) =
        let P : BadRequest → Type 0 = λ w. IsBadAt (old ++ (pulled.0 ++ body.0)) c w in
        let bytes : held ++ body.0 ≡ old ++ (pulled.0 ++ body.0) = ap (λ (xs : List ℕ). xs ++ body.0) pulled.2 ∙ append_assoc old pulled.0 body.0 in
        let Q : List ℕ → Type 0 = λ xs. IsBad xs why.CutOff in
        subst P (sym is) (subst Q bytes (inr (head, after ++ body.0, sized size, head_stays held body.0 head after begins, ap (result_map sized) long, short)), λ cut. none)
    by (stop.LinkFault count) short =
        let bytes : held ++ body.0 ≡ old ++ (pulled.0 ++ body.0) = ap (λ (xs : List ℕ). xs ++ body.0) pulled.2 ∙ append_assoc old pulled.0 body.0 in
        subst IsPartial bytes (inr (head, after ++ body.0, sized size, head_stays held body.0 head after begins, ap (result_map sized) long, short))
    by stop.Memory any =
        let bytes : held ++ body.0 ≡ old ++ (pulled.0 ++ body.0) = ap (λ (xs : List ℕ). xs ++ body.0) pulled.2 ∙ append_assoc old pulled.0 body.0 in
        let P : List ℕ → Type 0 = λ xs. (one : RequestHead) × (rest : List ℕ) × BeginsWithHead xs one rest in
        subst P bytes (head, after ++ body.0, head_stays held body.0 head after begins)

-- a body came whole
pub request_whole : (T : Type 0) (view : T → List ℕ) (number size moment : ℕ) (old held after new : List ℕ) (head : RequestHead) (body : T) (asked : Asked) (a b c d : Told) →
    Pulled old held a b → BeginsWithHead held head after → body_length_of (headers_of head) ≡ Ok size →
    asked ≡ record (asked_of number 0 head []) { body = view body; moment = moment } →
    BodyStep view size (Ok body) after new b c → d ≡ c → moment ≡ c.moment → RequestStep number (Ok asked) old new a d
request_whole T view number size moment old held after new head body asked a b c d pulled begins long is came same now =
    let all = pulled.0 ++ came.0 in
    let took : Took all a c = took_then pulled.0 came.0 a b c pulled.1 came.1 in
    let bytes : held ++ came.0 ≡ old ++ all = ap (λ (xs : List ℕ). xs ++ came.0) pulled.2 ∙ append_assoc old pulled.0 came.0 in
    let stays : BeginsWithHead (held ++ came.0) head (after ++ came.0) = head_stays held came.0 head after begins in
    let P : List ℕ → Type 0 = λ xs. BeginsWithHead xs head (after ++ came.0) in
    let R : Told → Type 0 = λ t. Took all a t in
    let at : moment ≡ a.moment = now ∙ took.moment in (
      all,
      subst R (sym same) took,
      (head, sized size, view body, after ++ came.0, subst P bytes stays, ap (result_map sized) long, (came.2.1, came.2.0), is ∙ ap (λ n. asked_of number n head (view body)) at),
    )

-- the spans cover the head in what was shown of the bytes
pub covers_here : (bytes held : List ℕ) (headers : List HeaderSpan) (spans : RequestSpans) (head : RequestHead) → held ≡ bytes →
    IsHeadAt bytes headers spans head → Covers (take spans.len held) (take spans.headers headers) spans head
covers_here bytes held headers spans head is at =
    let P : List ℕ → Type 0 = λ xs. Covers (take spans.len xs) (take spans.headers headers) spans head in
    subst P (sym is) at.covers
