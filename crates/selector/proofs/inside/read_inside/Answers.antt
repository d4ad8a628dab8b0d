use Rattle.std.proofs.Common.{◌++◌, ◌∷◌, [], sym, subst, map, append-nil, rules}
use Rattle.std.proofs.lemmas.Result.{err_from_is_err_and}
use Rattle.selector.specs.Grammar.{IsInside, IsSpace}
use Rattle.selector.specs.Rests.{AtInside, AtMore, AtName, Spaced, matching_of}
use Rattle.selector.proofs.InsideLemmas.{inside_spaced, broken_inside_spaced, broken_close, closed, broken_matcher, broken_after_matcher, broken_separated, inside_more, gathered}
use Rattle.selector.proofs.WrittenLemmas.{read_fault, read_refused}
use Rattle.selector.proofs.inside.read_inside.Goals as goal

pub loop-end-init : goal.loop-end-init
loop-end-init c =
    let space = c.skip_space-rest.ensures in
    let text = c.args.text.now in
    let rest = c.skip_space-rest.result.now in
    record {
      utf8 = search rules;
      settled = space.1.ends;
      reads = λ matchers inside.
          subst (λ items. IsInside text (map matching_of items ++ matchers)) (sym c.new-matchers.ensures.items)
          (subst (λ t. IsInside t matchers) (sym space.1.joined) (inside_spaced space.0 rest space.1.pass matchers inside));
      breaks = λ left broken. broken_inside_spaced text space.0 rest left space.1 broken;
    }

pub returns-in_err-read_end : goal.returns-in_err-read_end
returns-in_err-read_end c =
    let loop = c.loop-end.invariant in
    let p = err_from_is_err_and c.from_residual.result c.from_residual.ensures.1 in
    rw (p.1, p.2)
    (read_fault AtInside IsSpace c.args.text.now c.in-Some.end.now
    (λ left broken. loop.breaks left (broken_close c.loop-end.rest.now c.in-Some.end.now left c.in-Some.ensures broken)) c.in_err-read_end.field-0.0 c.in_err-read_end.ensures)

pub returns-in-Some : goal.returns-in-Some
returns-in-Some c =
    subst (IsInside c.args.text.now) (append-nil (map matching_of c.loop-end.matchers.items))
    (c.loop-end.invariant.reads [] (closed c.loop-end.rest.now c.in-Some.end.now c.in-Some.ensures c.in_ok-read_end.ensures))

pub returns-in_err-matcher : goal.returns-in_err-matcher
returns-in_err-matcher c =
    let loop = c.loop-end.invariant in
    let p = err_from_is_err_and c.from_residual-in_err-matcher.result c.from_residual-in_err-matcher.ensures.1 in
    rw (p.1, p.2)
    (read_refused AtInside (Spaced AtName) c.args.text.now c.loop-end.rest.now
    (λ left broken. loop.breaks left (broken_matcher c.loop-end.rest.now left loop.settled c.in_default.ensures broken)) c.in_err-matcher.field-0.0 c.in_err-matcher.ensures)

pub returns-in_err-rest : goal.returns-in_err-rest
returns-in_err-rest c =
    let loop = c.loop-end.invariant in
    let said = c.in_ok-matcher.ensures in
    let p = err_from_is_err_and c.from_residual-in_err-rest.result c.from_residual-in_err-rest.ensures.1 in
    rw (p.1, p.2)
    (read_fault AtInside AtMore c.args.text.now c.in_ok-matcher.after.now
    (λ left broken.
    loop.breaks left
    (broken_after_matcher c.loop-end.rest.now said.0 c.in_ok-matcher.after.now (matching_of c.in_ok-matcher.matcher) left said.1 said.2 broken))
    c.in_err-rest.field-0.0 c.in_err-rest.ensures)

pub loop-end-preserved : goal.loop-end-preserved
loop-end-preserved c =
    let loop = c.loop-end.invariant in
    let said = c.in_ok-matcher.ensures in
    let separates = c.in_ok-rest.ensures in
    let rest = c.loop-end.rest.now in
    let after = c.in_ok-matcher.after.now in
    let next = c.in_ok-rest.rest.now in
    let items = c.loop-end.matchers.items in
    let matcher = matching_of c.in_ok-matcher.matcher in
    record {
      utf8 = search rules;
      settled = separates.settled;
      reads = λ matchers inside.
          subst (λ items. IsInside c.args.text.now (map matching_of items ++ matchers)) (sym c.in_ok-push.ensures.items)
          (subst (IsInside c.args.text.now) (gathered matching_of items c.in_ok-matcher.matcher matchers)
          (loop.reads (matcher ∷ matchers) (inside_more rest said.0 after next matcher matchers said.1 said.2 separates inside)));
      breaks = λ left broken.
          loop.breaks left (broken_after_matcher rest said.0 after matcher left said.1 said.2 (broken_separated after next left separates broken));
    }
