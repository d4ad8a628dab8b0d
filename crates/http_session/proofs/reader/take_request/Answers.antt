use Rattle.std.proofs.Common.{◌≡◌, ◌∙◌, sym, ap, subst, ℕ, List, Ok, Vec, Global}
use Rattle.link_trait.specs.Link.{Told}
use Rattle.http_session.specs.Heads.{BeginsWithHead, headers_of}
use Rattle.http_session.specs.Framing.{body_length_of}
use Rattle.http_session.specs.Asked.{Asked}
use Rattle.http_session.specs.Steps.{HeadStep, BodyStep}
use Rattle.link_trait.proofs.GoesLemmas.{goes_then}
use Rattle.http_session.proofs.RequestLemmas.{body_stops, request_whole, covers_here}
use Rattle.http_session.proofs.reader.take_request.Goals as goal

pub returns-in-Err-take_body-clause-told : goal.returns-in-Err-take_body-clause-told
returns-in-Err-take_body-clause-told g c =
    let (head, at) = c.in_ok-spans.ensures.head in
    let held = c.take_head.new.buffer in
    let after = c.consume.new.self in
    let covers = covers_here held c.held.result.now c.take_head.new.headers c.in_ok-spans.spans head c.held.ensures.value at in
    let sized : body_length_of (headers_of head) ≡ Ok c.in-Ok.size = sym (ap body_length_of covers.headers_are) ∙ sym c.body_length.ensures ∙ c.in-Ok.is in
    let begins : BeginsWithHead held head after = let P : List ℕ → Type 0 = λ xs. BeginsWithHead held head xs in subst P (sym c.consume.ensures) at.begins in
    goes_then (HeadStep (Ok c.in_ok-spans.spans) c.args.buffer.now held) _ _ _ _ _
    (λ a b d taken body. body_stops (Vec ℕ Global) (λ v. v.items) c.args.number c.in-Ok.size c.args.buffer.now held after c.take_body.new.buffer head c.in-Err-take_body.stop a b d taken.0 begins sized body)
    c.in_ok-spans.ensures.told c.in-Err-take_body.ensures.told

pub returns-in-Ok-take_body-clause-told : goal.returns-in-Ok-take_body-clause-told
returns-in-Ok-take_body-clause-told g c =
    let (head, at) = c.in_ok-spans.ensures.head in
    let held = c.take_head.new.buffer in
    let after = c.consume.new.self in
    let covers = covers_here held c.held.result.now c.take_head.new.headers c.in_ok-spans.spans head c.held.ensures.value at in
    let sized : body_length_of (headers_of head) ≡ Ok c.in-Ok.size = sym (ap body_length_of covers.headers_are) ∙ sym c.body_length.ensures ∙ c.in-Ok.is in
    let begins : BeginsWithHead held head after = let P : List ℕ → Type 0 = λ xs. BeginsWithHead held head xs in subst P (sym c.consume.ensures) at.begins in
    let asked = c.with_body.ensures ∙ ap (λ (q : Asked). record q { body = c.in-Ok-take_body.body.items; moment = c.moment.result }) (c.in-Ok-of_head.ensures head covers) in
    goes_then (HeadStep (Ok c.in_ok-spans.spans) c.args.buffer.now held) (λ b d. (t : Told) × BodyStep {T = Vec ℕ Global} (λ v. v.items) c.in-Ok.size (Ok c.in-Ok-take_body.body) after c.take_body.new.buffer b t × (d ≡ t) × (c.moment.result ≡ t.moment)) _ _ _ _
    (λ a b d taken came. request_whole (Vec ℕ Global) (λ v. v.items) c.args.number c.in-Ok.size c.moment.result c.args.buffer.now held after c.take_body.new.buffer head c.in-Ok-take_body.body c.with_body.result a b came.0 d
    taken.0 begins sized asked came.1 came.2 came.3)
    c.in_ok-spans.ensures.told
    (goes_then _ (λ old new. (new ≡ old) × (c.moment.result ≡ old.moment)) _ _ _ _ (λ b t d came at. (t, came, at.0, at.1)) c.in-Ok-take_body.ensures.told c.moment.ensures.told)
