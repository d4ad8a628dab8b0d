use Rattle.selector.proofs.PatternLemmas.{no_pattern}
use Rattle.selector.proofs.pattern.build.Goals as goal

pub returns-in-Err-Syntax-clause-err : goal.returns-in-Err-Syntax-clause-err
returns-in-Err-Syntax-clause-err c =
    let arm = c.in-Err-Syntax in
    no_pattern c.args.text.now arm.field-0-0.kind (arm.ensures.by_grammar arm.field-0-0 arm.field-0-is) (rw arm.field-0-is at arm.ensures.kind)
