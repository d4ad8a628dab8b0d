use Rattle.std.proofs.Common.{◌∙◌}
use Rattle.std.proofs.lemmas.Result.{MatchResult-weaker}
use Rattle.selector.specs.Rests.{AtNegated, AtOperator}
use Rattle.selector.proofs.TokenLemmas.{no_operator, broken_after_bang}
use Rattle.selector.proofs.WrittenLemmas.{read_fault}
use Rattle.selector.proofs.tokens.read_operator.Goals as goal

pub returns-in-None-strip : goal.returns-in-None-strip
returns-in-None-strip c = no_operator c.args.text.now c.in_default.ensures c.in-None-strip.ensures

pub returns-in-Some-strip-2 : goal.returns-in-Some-strip-2
returns-in-Some-strip-2 c =
    let rest = c.in-Some-strip-2.rest.now in
    MatchResult-weaker c.read_negated.result c.read_negated.ensures (λ said h. (c.in-Some-strip-2.ensures ∙ h.0, h.1))
    (read_fault AtOperator AtNegated c.args.text.now rest (λ left broken. broken_after_bang c.args.text.now rest left c.in-Some-strip-2.ensures broken))
