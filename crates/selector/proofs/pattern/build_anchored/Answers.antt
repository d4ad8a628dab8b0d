use Rattle.std.proofs.Common.{◌∙◌, subst}
use Rattle.std.proofs.lemmas.Result.{IfOk-weaker}
use Rattle.selector.specs.Patterns.{anchored}
use Rattle.selector.specs.Stored.{IsBuiltFrom}
use Rattle.selector.proofs.PatternLemmas.{found_as, readable}
use Rattle.selector.proofs.pattern.build_anchored.Goals as goal

pub returns-clause-ok : goal.returns-clause-ok
returns-clause-ok c =
    let pattern = c.args.pattern.now in
    IfOk-weaker c.build.result _ _
    (λ regex built.
    let from = subst (λ text. IsBuiltFrom text regex) (c.as_str.ensures.value ∙ c.in_ok-whole.ensures) built in
    (readable (anchored pattern) regex from, found_as pattern regex from))
    c.build.ensures.ok
