use Rattle.std.proofs.Common.{rules, arith, sym}
use Rattle.query_merge.proofs.RunLemmas.{joined-step}
use Rattle.query_merge.proofs.runs.joined_with_last.Goals as goal

pub loop-left-preserved : goal.loop-left-preserved
loop-left-preserved c =
    joined-step c.args.runs.now c.args.samples.items c.loop-left.left c.index-runs-left-in-loop-left.result c.loop-left.run.items c.in_ok-run.run'.items
    c.requires.runs (omega (arith, c.loop-left-test.true)) c.loop-left.invariant (sym c.index-runs-left-in-loop-left.is) c.in_ok-run.ensures.sums
    (search rules) (search rules)
