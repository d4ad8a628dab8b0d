use Rattle.std.proofs.Common.{◌≡◌, ◌≤◌, ℕ, List, sym, subst, arith, append-nil, inl, inr, ap, ◌∙◌, Err, []}
use Rattle.std.proofs.lemmas.Bool.Decides.{nat_tests}
use Rattle.httparse.specs.declared.Error.TheVariants.{TooManyHeaders}
use Rattle.httparse.specs.Spans.{RequestExceeds}
use Rattle.std.proofs.lemmas.List.{take_all}
use Rattle.httparse.specs.Grammar.{HasNoRequest, ReadsRequest}
use Rattle.http_session.specs.Limits.{most_head_bytes, most_head_lines}
use Rattle.http_session.specs.Heads.{newlines, after_lines}
use Rattle.http_session.proofs.NewlineLemmas.{exceeds_newlines}
use Rattle.http_session.proofs.SpanLemmas.{head_at}
use Rattle.http_session.proofs.head.read_head.Goals as goal
use Rattle.http_session.proofs.head.read_head.Goals.{then-bytes-eq-MAX_HEAD_BYTES, else-bytes-eq-MAX_HEAD_BYTES}

pub returns-in-Ok-Complete : goal.returns-in-Ok-Complete
returns-in-Ok-Complete c =
    let arm = c.in-Ok-Complete in
    let within = rw arm.field-0-is at arm.ensures.within in
    let complete = rw arm.field-0-is at arm.ensures.complete in
    (complete.0, head_at c.args.bytes.now c.parse_request.new.headers arm.spans complete.0 c.requires (c.parse_request.auto.headers ∙ c.told-headers) within complete.1)

pub returns-then-newline_count-ge-MAX_HEAD_LINES : goal.returns-then-newline_count-ge-MAX_HEAD_LINES
returns-then-newline_count-ge-MAX_HEAD_LINES c =
    let bytes = c.args.bytes.now in
    let none : HasNoRequest bytes = rw c.in-Ok-Partial.field-0-is at c.in-Ok-Partial.ensures.partial in
    elim c.if-bytes-eq-MAX_HEAD_BYTES.branch [
      | then-bytes-eq-MAX_HEAD_BYTES w ↦ inl (omega arith, subst HasNoRequest (sym (take_all most_head_bytes bytes c.requires)) none)
      | else-bytes-eq-MAX_HEAD_BYTES w ↦ inr (let many : most_head_lines ≤ newlines (after_lines bytes) = grind (arith, nat_tests) in many, λ head rest reads. absurd (none head rest reads))
    ]

pub returns-in-Err-TooManyHeaders : goal.returns-in-Err-TooManyHeaders
returns-in-Err-TooManyHeaders c =
    let bytes = c.args.bytes.now in
    let arm = c.in-Err-TooManyHeaders in
    let over : c.parse_request.result ≡ Err TooManyHeaders = arm.is ∙ ap Err arm.field-0-is in
    let P : ℕ → Type 0 = λ room. RequestExceeds room bytes in
    inr (
      exceeds_newlines bytes (subst P c.told-headers (c.parse_request.ensures.too_many over)),
      λ head rest reads. omega (arith, c.told-headers, arm.ensures.no_room [] head rest (let Q : List ℕ → Type 0 = λ b. ReadsRequest b head rest in subst Q (sym (append-nil bytes)) reads)),
    )
