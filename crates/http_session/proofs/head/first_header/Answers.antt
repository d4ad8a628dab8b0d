use Rattle.std.proofs.Common.{map, sym, ◌∙◌, ap, List, ◌+◌}
use Rattle.std.proofs.lemmas.List.{drop_more, take_rest}
use Rattle.std.proofs.lemmas.Bool.{both_ways}
use Rattle.httparse.specs.Spans.{header_bytes}
use Rattle.httparse.specs.declared.spans.HeaderSpan.{HeaderSpan}
use Rattle.http_session.specs.Heads.{all_named}
use Rattle.http_session.proofs.NamedLemmas.{named_here, named_later}
use Rattle.http_session.proofs.head.first_header.Goals as goal

pub returns-then-eq_ignore_ascii_case-clause-some : goal.returns-then-eq_ignore_ascii_case-clause-some
returns-then-eq_ignore_ascii_case-clause-some c =
    let named = λ (hs : List HeaderSpan). all_named c.args.name.now (map (header_bytes c.args.text.now) hs) in
    let next = drop_more c.args.headers.now c.loop-i.i _ c.loop-i-test.true in
    let same = rw c.of.ensures at (c.eq_ignore_ascii_case.ensures.test.0 c.if-eq_ignore_ascii_case.true) in
    rw (take_rest c.args.headers.now (c.loop-i.i + 1)) (sym c.loop-i.invariant ∙ ap named next ∙ named_here c.args.name.now _ _ same)

pub loop-i-preserved : goal.loop-i-preserved
loop-i-preserved c =
    let named = λ (hs : List HeaderSpan). all_named c.args.name.now (map (header_bytes c.args.text.now) hs) in
    let next = drop_more c.args.headers.now c.loop-i.i _ c.loop-i-test.true in
    let other = λ (same : _). both_ways c.eq_ignore_ascii_case.result c.if-eq_ignore_ascii_case.false (c.eq_ignore_ascii_case.ensures.test.1 (rw c.of.ensures same)) in
    sym (named_later c.args.name.now _ _ other) ∙ sym (ap named next) ∙ c.loop-i.invariant
