use Rattle.std.proofs.Common.{[], length, rules, arith, sym, subst}
use Rattle.query_merge.specs.Runs.{AreJoined}
use Rattle.query_merge.proofs.RunLemmas.{all-joined, joined-begins, joined-step, no_sums}
use Rattle.query_merge.proofs.runs.all_joined.Goals as goal

pub loop-left-preserved : goal.loop-left-preserved
loop-left-preserved c =
    joined-step c.args.runs.now [] c.loop-left.left c.index-runs-left.result c.loop-left.samples.items c.in_ok-samples.samples.items
    c.requires (omega (arith, c.loop-left-test.true)) c.loop-left.invariant (sym c.index-runs-left.is) c.in_ok-samples.ensures.sums
    (search rules) (search rules)

pub loop-left-init : goal.loop-left-init
loop-left-init c =
    subst (AreJoined c.args.runs.now [] (length c.args.runs.now)) (sym c.new-samples.ensures.items) (joined-begins c.args.runs.now [] no_sums)

pub returns-clause-all : goal.returns-clause-all
returns-clause-all c =
    all-joined c.args.runs.now c.loop-left.samples.items
    (subst (λ left. AreJoined c.args.runs.now [] left c.loop-left.samples.items) (omega (arith, c.loop-left-test.false)) c.loop-left.invariant)
