use Rattle.std.proofs.Common.{map}
use Rattle.std.proofs.lemmas.Result.{MatchResult-weaker}
use Rattle.selector.specs.Rests.{AtInside, AtSelector, matching_of}
use Rattle.selector.proofs.InsideLemmas.{filled}
use Rattle.selector.proofs.WrittenLemmas.{read_refused}
use Rattle.selector.proofs.SelectorLemmas.{selector_of, broken_selector, no_brace}
use Rattle.selector.proofs.selector.read_selector.Goals as goal

pub returns-in-None : goal.returns-in-None
returns-in-None c =
    let space = c.skip_space-start.ensures in
    no_brace c.args.text.now space.0 c.skip_space-start.result.now space.1 c.in-None.ensures (filled c.args.text.now c.is_empty.result c.is_empty.ensures c.if-is_empty.false)

pub returns-in-Some : goal.returns-in-Some
returns-in-Some c =
    let space = c.skip_space-start.ensures in
    let start = c.skip_space-start.result.now in
    let inside = c.in-Some.inside.now in
    MatchResult-weaker c.read_inside.result c.read_inside.ensures
    (λ matchers at. selector_of c.args.text.now space.0 start inside (map matching_of matchers.items) space.1 c.in-Some.ensures at)
    (read_refused AtSelector AtInside c.args.text.now inside (λ left broken. broken_selector c.args.text.now space.0 start inside left space.1 c.in-Some.ensures broken))
