use Rattle.std.proofs.Common.{◌≡◌, ◌+◌, sym, ap, ◌∙◌, subst, arith}
use Rattle.std.proofs.lemmas.Bool.{eqb-true}
use Rattle.pprof_codec.specs.Tables.{TakesRoom, first_stack, run_added, sums_weight}
use Rattle.pprof_codec.proofs.BuildLemmas.{stack-read}
use Rattle.pprof_codec.proofs.OrderLemmas.{first-stack}
use Rattle.pprof_codec.proofs.RunLemmas.{run-empty}
use Rattle.pprof_codec.proofs.sums.add_run.Goals as goal

pub returns-then-is_empty : goal.returns-then-is_empty
returns-then-is_empty c =
    let message = c.args.judged.now.message in
    let same = run-empty message c.args.run.now (first_stack message c.args.run.now) c.args.sums.now (eqb-true _ _ (sym c.is_empty.ensures ∙ c.if-is_empty.true)) in
    (ap (λ all. c.args.room.now + sums_weight all) same, same)

pub build_stack-requires : goal.build_stack-requires
build_stack-requires c = stack-read c.args.judged.now.message _ _ c.args.judged.now.stacks c.sample.ensures

pub returns : goal.returns
returns c =
    let message = c.args.judged.now.message in
    let run = c.args.run.now in
    let before = c.args.sums.now in
    subst (λ stack. TakesRoom c.add_to_each.result (c.args.room.now + sums_weight before) c.add_to_each.new.room (sums_weight (run_added message run stack before))
    (λ _. c.add_to_each.new.sums ≡ run_added message run stack before))
    (c.in_ok-stack.ensures ∙ first-stack message run _ _ (omega arith) c.sample.ensures)
    c.add_to_each.ensures
