use Rattle.std.proofs.Common.{string_bytes}
use Rattle.std.proofs.lemmas.Result.{err_from_is_err_and}
use Rattle.selector.specs.Rests.{AtName, AtOperator, AtString, Spaced}
use Rattle.selector.proofs.MatcherLemmas.{matcher_of}
use Rattle.selector.proofs.TokenLemmas.{broken_before_name, broken_after_name, broken_before_operator, broken_after_operator, broken_before_string}
use Rattle.selector.proofs.WrittenLemmas.{read_fault, read_refused}
use Rattle.selector.proofs.matcher.read_matcher.Goals as goal

pub returns-in_err-name : goal.returns-in_err-name
returns-in_err-name c =
    let space = c.skip_space.ensures in
    let start = c.skip_space.result.now in
    let p = err_from_is_err_and c.from_residual.result c.from_residual.ensures.1 in
    rw (p.1, p.2)
    (read_fault (Spaced AtName) AtName c.args.text.now start (λ left broken. broken_before_name c.args.text.now space.0 start left space.1 broken)
    c.in_err-name.field-0.0 c.in_err-name.ensures)

pub returns-in_err-operator : goal.returns-in_err-operator
returns-in_err-operator c =
    let space = c.skip_space.ensures in
    let start = c.skip_space.result.now in
    let name = c.in_ok-name.name.now in
    let named = c.in_ok-name.ensures in
    let space2 = c.skip_space-2.ensures in
    let start2 = c.skip_space-2.result.now in
    let p = err_from_is_err_and c.from_residual-in_err-operator.result c.from_residual-in_err-operator.ensures.1 in
    rw (p.1, p.2)
    (read_fault (Spaced AtName) AtOperator c.args.text.now start2
    (λ left broken.
    broken_before_name c.args.text.now space.0 start left space.1
    (broken_after_name start name c.in_ok-name.rest.now left named.1 named.0
    (broken_before_operator c.in_ok-name.rest.now space2.0 start2 left space2.1 broken)))
    c.in_err-operator.field-0.0 c.in_err-operator.ensures)

pub returns-in_err-value : goal.returns-in_err-value
returns-in_err-value c =
    let space = c.skip_space.ensures in
    let start = c.skip_space.result.now in
    let name = c.in_ok-name.name.now in
    let named = c.in_ok-name.ensures in
    let space2 = c.skip_space-2.ensures in
    let start2 = c.skip_space-2.result.now in
    let said = c.in_ok-operator.ensures in
    let space3 = c.skip_space-3.ensures in
    let start3 = c.skip_space-3.result.now in
    let p = err_from_is_err_and c.from_residual-in_err-value.result c.from_residual-in_err-value.ensures.1 in
    rw (p.1, p.2)
    (read_refused (Spaced AtName) AtString c.args.text.now start3
    (λ left broken.
    broken_before_name c.args.text.now space.0 start left space.1
    (broken_after_name start name c.in_ok-name.rest.now left named.1 named.0
    (broken_before_operator c.in_ok-name.rest.now space2.0 start2 left space2.1
    (broken_after_operator start2 c.in_ok-operator.operator c.in_ok-operator.rest.now left said.0 said.1
    (broken_before_string c.in_ok-operator.rest.now space3.0 start3 left space3.1 broken)))))
    c.in_err-value.field-0.0 c.in_err-value.ensures)

pub returns : goal.returns
returns c =
    let space = c.skip_space.ensures in
    let named = c.in_ok-name.ensures in
    let space2 = c.skip_space-2.ensures in
    let said = c.in_ok-operator.ensures in
    let space3 = c.skip_space-3.ensures in
    let string = c.in_ok-value.ensures in
    matcher_of c.args.text.now space.0 c.skip_space.result.now c.in_ok-name.name.now c.in_ok-name.rest.now space2.0 c.skip_space-2.result.now c.in_ok-operator.operator
    c.in_ok-operator.rest.now space3.0 c.skip_space-3.result.now string.0 c.in_ok-value.rest.now (string_bytes c.in_ok-value.value)
    space.1.joined named.1.joined space2.1.joined said.0 space3.1.joined string.1 (space.1.pass, space2.1.pass, space3.1.pass) named.0 string.2
