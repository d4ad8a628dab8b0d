use Rattle.std.proofs.Common.{◌≡◌, ◌∙◌, arith, sym, ap, subst, length, List, ℕ}
use Rattle.std.proofs.lemmas.Grind.{common_steps}
use Rattle.httparse.specs.declared.spans.Span.{Span}
use Rattle.httparse.specs.Spans.{span_bytes, IsWithin}
use Rattle.http_session.specs.InHead.{Grows}
use Rattle.http_session.specs.Asked.{path_of, query_of}
use Rattle.http_session.proofs.SpanLemmas.{span_grows, maybe_grows, grows_then}
use Rattle.http_session.proofs.PartsLemmas.{whole_range, same_asked}
use Rattle.http_session.proofs.request.Request.from_parts.Goals as goal

pub returns : goal.returns
returns c =
    let h0 : List ℕ = c.in_ok-head.head.items in
    let h1 : List ℕ = c.keep.new.head.items in
    let h2 : List ℕ = c.keep-2.new.head.items in
    let h3 : List ℕ = c.keep-3.new.head.items in
    let g1 : Grows h0 h1 = c.in_ok-tenant.ensures.grows in
    let g2 : Grows h1 h2 = c.in_ok-front.ensures.grows in
    let g3 : Grows h2 h3 = c.in_ok-encoding.ensures.grows in
    let g13 : Grows h1 h3 = grows_then h1 h2 h3 g2 g3 in
    let g03 : Grows h0 h3 = grows_then h0 h1 h3 g1 g13 in
    let shown : c.deref.result.now ≡ h0 = c.deref.ensures.value in
    let target = whole_range c.deref.result.now c.len-end.result (grind (arith, common_steps)) ∙ shown ∙ c.in_ok-head.ensures.items in
    let P : Span → List ℕ → Type 0 = λ s xs. IsWithin (length xs) s in
    let path = span_grows h0 h3 c.split_target.result.0 g03 (subst (P c.split_target.result.0) shown c.split_target.ensures.within.0)
    ∙ sym (ap (λ (xs : List ℕ). span_bytes xs c.split_target.result.0) shown) ∙ c.split_target.ensures.path ∙ ap path_of target in
    let query = span_grows h0 h3 c.split_target.result.1 g03 (subst (P c.split_target.result.1) shown c.split_target.ensures.within.1)
    ∙ sym (ap (λ (xs : List ℕ). span_bytes xs c.split_target.result.1) shown) ∙ c.split_target.ensures.query ∙ ap query_of target in
    let tenant = maybe_grows h1 h3 c.in_ok-tenant.tenant g13 c.in_ok-tenant.ensures.within ∙ c.in_ok-tenant.ensures.kept in
    let front = maybe_grows h2 h3 c.in_ok-front.front g3 c.in_ok-front.ensures.within ∙ c.in_ok-front.ensures.kept in
    same_asked _ _ _ _ _ _ _ _ _ _ _ _ _ _ path query tenant front c.in_ok-encoding.ensures.kept
