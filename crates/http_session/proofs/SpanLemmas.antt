-- What spans cover stays the same in the text of the head alone.
use Rattle.std.proofs.Common.{◌≡◌, ℕ, ◌+◌, ◌-◌, ◌≤◌, List, [], ◌∷◌, ◌++◌, length, take, drop, map, refl, sym, subst, ap, ap₂, ◌∙◌, arith, append_assoc, length-append, length-take, slice_range, Option, Some, None, IfSome}
use Rattle.std.specs.Option.{option_map}
use Rattle.std.proofs.Math.Seq.{take-append_seam}
use Rattle.http_session.specs.Limits.{most_head_bytes, most_headers}
use Rattle.http_session.specs.InHead.{Grows}
use Rattle.std.specs.List.{All}
use Rattle.std.proofs.lemmas.List.{take-take, drop-take, length-take-le, length-map}
use Rattle.std.proofs.lemmas.List.Elements.{All-head, All-tail}
use Rattle.httparse.specs.declared.spans.Span.{Span}
use Rattle.httparse.specs.declared.spans.HeaderSpan.{HeaderSpan}
use Rattle.httparse.specs.declared.spans.RequestSpans.{RequestSpans}
use Rattle.httparse.specs.Grammar.{RequestHead}
use Rattle.httparse.specs.Spans.{span_bytes, IsWithin, IsHeaderWithin, header_bytes, IsRequestWithin, IsRequestAt, name_and_value}
use Rattle.http_session.specs.HeadRead.{IsHeadAt}

-- a span in the first n bytes covers the same in these alone
pub span_in_front : (n : ℕ) (bytes : List ℕ) (span : Span) → IsWithin n span → span_bytes (take n bytes) span ≡ span_bytes bytes span
span_in_front n bytes span within =
    ap (λ m. slice_range (take m bytes) span.start span.end) (let same : n ≡ span.start + (n - span.start) = omega (arith, within.0, within.1) in same)
    ∙ ap (λ (xs : List ℕ). take (span.end - span.start) xs) (drop-take span.start (n - span.start) bytes)
    ∙ take-take (span.end - span.start) (n - span.start) (drop span.start bytes) (omega (arith, within.0, within.1))

-- the same of headers
pub headers_in_front : (n : ℕ) (bytes : List ℕ) (headers : List HeaderSpan) → All (IsHeaderWithin n) headers →
    map (header_bytes (take n bytes)) headers ≡ map (header_bytes bytes) headers
headers_in_front n bytes [] within = refl
headers_in_front n bytes (h ∷ headers) within =
    let first = All-head (IsHeaderWithin n) h headers within in
    ap₂ (λ (x : List ℕ × List ℕ) (xs : List (List ℕ × List ℕ)). x ∷ xs)
    (ap₂ (λ (a b : List ℕ). (a, b)) (span_in_front n bytes h.name first.0) (span_in_front n bytes h.value first.1))
    (headers_in_front n bytes headers (All-tail (IsHeaderWithin n) h headers within))

-- what the parser answers, said of the text of the head alone
pub head_at : (bytes : List ℕ) (headers : List HeaderSpan) (spans : RequestSpans) (head : RequestHead) → length bytes ≤ most_head_bytes → length headers ≡ most_headers →
    IsRequestWithin bytes headers spans → IsRequestAt bytes headers spans head → IsHeadAt bytes headers spans head
head_at bytes headers spans head short room within at =
    let long : length (take spans.len bytes) ≡ spans.len = length-take-le spans.len bytes within.section.len_fits in
    let counted : length head.fields ≡ length (take spans.headers headers) =
    sym (length-map head.fields name_and_value) ∙ ap length (sym at.fields) ∙ length-map (take spans.headers headers) (header_bytes bytes) in
    let few : length head.fields ≤ most_headers = omega (arith, counted, room, length-take spans.headers headers) in
    record {
      begins = record { reads = at.reads; few = few; short = omega (arith, at.len, within.section.len_fits) };
      fits = within.section.len_fits;
      count = within.section.count_fits;
      covers = record {
        method_within = let P : ℕ → Type 0 = λ n. IsWithin n spans.method in subst P (sym long) within.method;
        target_within = let P : ℕ → Type 0 = λ n. IsWithin n spans.path in subst P (sym long) within.path;
        headers_within = let P : ℕ → Type 0 = λ n. All (IsHeaderWithin n) (take spans.headers headers) in subst P (sym long) within.section.headers_fit;
        method = span_in_front spans.len bytes spans.method within.method ∙ at.method;
        target = span_in_front spans.len bytes spans.path within.path ∙ at.path;
        version = at.version;
        headers_are = headers_in_front spans.len bytes (take spans.headers headers) within.section.headers_fit ∙ at.fields;
      };
    }

-- a span covers the same where more bytes stand behind
pub span_grows : (old new : List ℕ) (span : Span) → Grows old new → IsWithin (length old) span → span_bytes new span ≡ span_bytes old span
span_grows old new span (more, is) within =
    ap (λ (xs : List ℕ). span_bytes xs span) is
    ∙ sym (span_in_front (length old) (old ++ more) span within)
    ∙ ap (λ (xs : List ℕ). span_bytes xs span) (take-append_seam old more)

pub within_grows : (old new : List ℕ) (span : Span) → Grows old new → IsWithin (length old) span → IsWithin (length new) span
within_grows old new span (more, is) (order, fits) = (order, omega (arith, fits, ap length is, length-append old more))

pub grows_then : (a b c : List ℕ) → Grows a b → Grows b c → Grows a c
grows_then a b c one two = (one.0 ++ two.0, two.1 ∙ ap (λ (xs : List ℕ). xs ++ two.0) one.1 ∙ append_assoc a one.0 two.0)

-- the same of a span that may be there
pub maybe_grows : (old new : List ℕ) (span : Option Span) → Grows old new → IfSome span (IsWithin (length old)) →
    option_map (span_bytes new) span ≡ option_map (span_bytes old) span
maybe_grows old new None grows within = refl
maybe_grows old new (Some span) grows within = ap Some (span_grows old new span grows within)

pub maybe_within : (old new : List ℕ) (span : Option Span) → Grows old new → IfSome span (IsWithin (length old)) → IfSome span (IsWithin (length new))
maybe_within old new None grows within = tt
maybe_within old new (Some span) grows within = within_grows old new span grows within
