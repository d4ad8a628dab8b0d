use Rattle.std.proofs.Common.{◌≡◌, ◌∙◌, ap, sym}
use Rattle.selector.specs.Matching.{passes}
use Rattle.selector.specs.Tests.{operator_of, asked_of}
use Rattle.selector.proofs.VerdictLemmas.{verdict_put}
use Rattle.selector.proofs.judge.Judge.passes.Goals as goal

pub invariant_of-self-then-len-lt-MAX_VERDICTS : goal.invariant_of-self-then-len-lt-MAX_VERDICTS
invariant_of-self-then-len-lt-MAX_VERDICTS c =
    let test = c.args.self.now.test in
    let key : c.in_ok-clone.field-0 ≡ c.args.value.now = c.in_ok-clone.ensures.cases in
    let said = c.in_ok-verdict.ensures ∙ ap (passes (operator_of test) (asked_of test)) (c.as_str.ensures ∙ sym key) in
    record {
      right = verdict_put c.insert.result test c.args.self.now.verdicts c.insert.new.self c.in_ok-clone.field-0 c.in_ok-verdict.verdict c.args.self.now.right said
          c.insert.ensures.updates c.insert.ensures.err;
    }
